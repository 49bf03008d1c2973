-- What a report tells of a draft's chart under an architecture.
use Rattle.std.specs.Prelude.{◌≡◌, ℕ, ◌+◌, ◌-◌, ◌<◌, ◌≤◌, List, [], ◌∷◌, Option, None, Some, fold, length, map, take}
use Rattle.std.specs.List.{All}
use Rattle.msc_chart.specs.declared.queue.Queues.{Queues}
use Rattle.msc_chart.specs.Drawings.{Drawing}
use Rattle.msc_chart.specs.Lists.{StandsAt}
use Rattle.msc_chart.specs.Orders.{wired, WiredChart}
use Rattle.msc_order.specs.Tables.{Table}
use Rattle.msc_parser.specs.Canonical.{canonical}
use Rattle.msc_parser.specs.Grammar.{Tree}
use Rattle.msc_picture.specs.declared.scene.Scene.{Scene}
use Rattle.msc_picture.specs.Scenes.{IsPopulated, IsRunLaidOut, IsSceneOf}
use Rattle.msc_race.specs.Reversals.{IsReversingRun}
use Rattle.msc_race.specs.Views.{races_of}
use Rattle.msc_race.specs.Wired.{enforced_chart, IsEnforced}
use Rattle.msc_reason.specs.Closest.{IsClosestList}
use Rattle.msc_reason.specs.Causes.{IsCauseOf}
use Rattle.msc_html.specs.declared.article.ShownRace.{ShownRace}
use Rattle.msc_html.specs.Articles.{Article}
use Rattle.msc_html.specs.Reports.{report, report_text}

-- the picture is that of a run of a draft's chart under an architecture that has f before e, with a
-- mark of the two under this number; its events are drawn by these ranks if they are given
pub record ShowsRun (draft : Tree) (d : Drawing) (ranks : Option (List ℕ)) (queues : Queues) (e f number : ℕ) (s : Scene) : Type 0 where
  pub run : List ℕ
  pub reverses : IsReversingRun (wired queues d) e f run
  pub shows : IsPopulated draft d s
  pub laid_out : IsRunLaidOut (wired queues d) ranks run e f number s

-- the race of an article
abbrev pub race_of : Article → ℕ × ℕ
race_of a = (a.told.first, a.told.second)

-- why the race of an article is one is told
abbrev pub IsRightlyTold : WiredChart → Article → Type 0
IsRightlyTold chart a = IsCauseOf chart a.told.first a.told.second a.told.cause

-- articles are numbered in their order, from this number on
abbrev pub AreNumbered : ℕ → List Article → Type 0
AreNumbered k [] = Unit {0}
AreNumbered k (a ∷ others) = (a.told.number ≡ k) × AreNumbered (k + 1) others

-- how many rows the picture of a run has, where it is drawn
abbrev pub run_rows : Option Scene → ℕ
run_rows None = 0
run_rows (Some s) = length s.rows

-- how many rows the pictures of runs have together
abbrev pub rows_drawn : List Article → ℕ
rows_drawn articles = fold (λ sum a. sum + run_rows a.run) 0 articles

-- the run of a race is not drawn, since it has more rows than there is room left
pub record LacksRoom (shows : ShownRace → Scene → Type 0) (room : ℕ) (t : ShownRace) : Type 0 where
  pub scene : Scene
  pub right : shows t scene
  pub wide : room < length scene.rows

-- The runs of so many articles are drawn, and of no later ones, in the room of 1500 rows; and there
-- is no room for that of the next one.
pub record AreDrawn (shows : ShownRace → Scene → Type 0) (many : ℕ) (articles : List Article) : Type 0 where
  pub few : many ≤ length articles
  pub some : (k : ℕ) (a : Article) → StandsAt articles k a → k < many → (s : Scene) × (a.run ≡ Some s) × shows a.told s
  pub none : (k : ℕ) (a : Article) → StandsAt articles k a → many ≤ k → a.run ≡ None
  pub room : rows_drawn articles ≤ 1500
  pub longest : (a : Article) → StandsAt articles many a → LacksRoom shows (1500 - rows_drawn articles) a.told

-- the picture shows a run that reverses a race that is told
abbrev pub ShowsIts : Tree → Drawing → Option (List ℕ) → Queues → ShownRace → Scene → Type 0
ShowsIts draft d ranks queues t s = ShowsRun draft d ranks queues t.first t.second t.number s

-- the articles are those of the first 50 of these races, in their order
pub record AreArticles (draft : Tree) (d : Drawing) (ranks : Option (List ℕ)) (queues : Queues) (races : List (ℕ × ℕ)) (many : ℕ) (articles : List Article) : Type 0 where
  pub races_are : map race_of articles ≡ take 50 races
  pub numbered : AreNumbered 1 articles
  pub told : All (IsRightlyTold (wired queues d)) articles
  pub drawn : AreDrawn (ShowsIts draft d ranks queues) many articles

-- what is printed as the report of a draft's chart under an architecture, by a program of this
-- version
pub record PrintsReport (draft : Tree) (d : Drawing) (ranks : Option (List ℕ)) (queues : Queues) (version : List ℕ) (printed : List ℕ) : Type 0 where
  pub order : Table
  pub by_order : IsEnforced (enforced_chart d queues order)
  pub closest : List (ℕ × ℕ)
  pub are : IsClosestList (wired queues d) closest
  pub scene : Scene
  pub right : IsSceneOf draft d ranks closest scene
  pub many : ℕ
  pub articles : List Article
  pub tell : AreArticles draft d ranks queues closest many articles
  pub text : printed ≡ report_text (report d queues (length (races_of (enforced_chart d queues order))) (length closest) scene articles (canonical draft) version)
