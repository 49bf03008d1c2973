-- What the code keeps while it tells races one by one.
use Rattle.std.specs.Prelude.{◌≡◌, ℕ, ◌+◌, ◌-◌, ◌<◌, ◌≤◌, true, false, List, ◌++◌, Option, None, Some, length, map, option_copied}
use Rattle.msc_chart.specs.Drawings.{chart_of}
use Rattle.msc_parser.specs.Grammar.{Tree}
use Rattle.msc_picture.specs.declared.scene.Scene.{Scene}
use Rattle.msc_race.specs.Wired.{EnforcedChart}
use Rattle.msc_tree.specs.Trees.{line_text, lines_text}
use Rattle.msc_html.specs.declared.article.ShownRace.{ShownRace}
use Rattle.msc_html.specs.declared.races.Progress.{Progress}
use Rattle.msc_html.specs.declared.races.Source.{Source}
use Rattle.msc_draw.specs.Listed.{listed_of}
use Rattle.msc_parser.specs.Canonical.{canonical}
use Rattle.msc_picture.specs.Scenes.{IsSceneOf}
use Rattle.msc_reason.specs.Selected.{Selected}
use Rattle.msc_html.specs.Articles.{Article, article_node}
use Rattle.msc_html.specs.Reports.{body_node, main_nodes, races_nodes, report, Report, report_text}
use Rattle.msc_html.specs.Findings.{rows_drawn, AreArticles, ShowsIts}

-- the chart under its architecture
abbrev pub judged : Source → EnforcedChart
judged source = source.listing.now.judged

-- the draft is that of the chart
abbrev pub IsOfDraft : Source → Type 0
IsOfDraft source = (judged source).chart ≡ chart_of source.draft.now

-- the ranks by which the events of its pictures are drawn, if there are any
abbrev pub ranks_in : Source → Option (List ℕ)
ranks_in source = option_copied source.ranks

-- the picture shows a run that reverses a race
abbrev pub ShowsIn : Source → ShownRace → Scene → Type 0
ShowsIn source =
    ShowsIts source.draft.now (judged source).chart (ranks_in source) (judged source).queues

-- How the picture of a run is drawn or not: it is drawn where there is room for it, and where every
-- one before it is.
pub data GoesOn (shows : ShownRace → Scene → Type 0) (t : ShownRace) (old new : Progress) : Option Scene → Type 0 where
  draws : (s : Scene) → old.full ≡ false → shows t s → length s.rows ≤ old.room
      → new.room ≡ old.room - length s.rows → new.full ≡ false → GoesOn shows t old new (Some s)
  causes : (s : Scene) → old.full ≡ false → shows t s → old.room < length s.rows
      → new.room ≡ old.room → new.full ≡ true → GoesOn shows t old new None
  left : old.full ≡ true → new.room ≡ old.room → new.full ≡ true → GoesOn shows t old new None

-- These races are told, the first 50 of them, behind the beginning of a page.
pub record HasTold (source : Source) (base page : List ℕ) (races : List (ℕ × ℕ)) (p : Progress) : Type 0 where
  pub articles : List Article
  pub many : ℕ
  pub are : AreArticles source.draft.now (judged source).chart (ranks_in source) (judged source).queues races many articles
  pub page_is : page ≡ base ++ lines_text (map (article_node source.scene.now (judged source).chart (judged source).queues) articles)
  pub told : p.told ≡ length articles
  pub room : p.room + rows_drawn articles ≡ 1500
  pub all : p.full ≡ false → many ≡ length articles
  pub cut : p.full ≡ true → many < length articles

-- the articles of the races that are listed are the first of these
abbrev pub AreIts : Source → ℕ → List Article → Type 0
AreIts source many articles =
    AreArticles source.draft.now (judged source).chart (ranks_in source) (judged source).queues
    (listed_of source.listing.now) many articles

-- the races are told behind a page
pub record TellsRaces (source : Source) (old new : List ℕ) (races closest : ℕ) : Type 0 where
  pub articles : List Article
  pub many : ℕ
  pub are : AreIts source many articles
  pub page_is : new ≡ old ++ lines_text (races_nodes (judged source).chart (judged source).queues races closest
      (map (article_node source.scene.now (judged source).chart (judged source).queues) articles))

-- the report of these articles
abbrev pub report_in : Source → ℕ → ℕ → List Article → List ℕ → List ℕ → Report
report_in source races closest articles text version =
    report (judged source).chart (judged source).queues races closest source.scene.now articles text version

-- what a page tells stands behind another one
pub record TellsMain (source : Source) (old new : List ℕ) (races closest : ℕ) (text version : List ℕ) : Type 0 where
  pub articles : List Article
  pub many : ℕ
  pub are : AreIts source many articles
  pub page_is : new ≡ old ++ lines_text (main_nodes (report_in source races closest articles text version))

-- so does its body
pub record TellsBody (source : Source) (old new : List ℕ) (races closest : ℕ) (text version : List ℕ) : Type 0 where
  pub articles : List Article
  pub many : ℕ
  pub are : AreIts source many articles
  pub page_is : new ≡ old ++ line_text (body_node (report_in source races closest articles text version))

-- and the whole
pub record TellsPage (source : Source) (old new : List ℕ) (races closest : ℕ) (text version : List ℕ) : Type 0 where
  pub articles : List Article
  pub many : ℕ
  pub are : AreIts source many articles
  pub page_is : new ≡ old ++ report_text (report_in source races closest articles text version)

-- what is printed of a listing of races: the picture with their marks, and the articles
pub record TellsListing (draft : Tree) (s : Selected) (ranks : Option (List ℕ)) (races : ℕ) (version printed : List ℕ) : Type 0 where
  pub scene : Scene
  pub right : IsSceneOf draft s.judged.chart ranks (listed_of s) scene
  pub articles : List Article
  pub many : ℕ
  pub are : AreArticles draft s.judged.chart ranks s.judged.queues (listed_of s) many articles
  pub text : printed ≡ report_text (report s.judged.chart s.judged.queues races (length (listed_of s)) scene articles
      (canonical draft) version)
