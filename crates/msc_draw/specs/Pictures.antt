-- What is printed of a chart, and of a run that reverses a race.
use Rattle.std.specs.Prelude.{◌≡◌, ℕ, List, [], Option, None, Some, length}
use Rattle.msc_chart.specs.declared.queue.Queues.{Queues}
use Rattle.msc_chart.specs.Drawings.{Drawing}
use Rattle.msc_chart.specs.Orders.{wired, IsRace}
use Rattle.msc_order.specs.Tables.{Table}
use Rattle.msc_parser.specs.Grammar.{Tree}
use Rattle.msc_picture.specs.declared.scene.Scene.{Scene}
use Rattle.msc_picture.specs.Scenes.{IsPopulated, IsRunLaidOut, IsSceneOf}
use Rattle.msc_race.specs.Reversals.{IsReversingRun}
use Rattle.msc_race.specs.Views.{races_of}
use Rattle.msc_race.specs.Wired.{enforced_chart, IsEnforced}
use Rattle.msc_reason.specs.Closest.{IsClosestList}
use Rattle.msc_draw.specs.declared.picture_format.PictureFormat.{PictureFormat}
use Rattle.msc_draw.specs.PictureFormats.{text_in}
use Rattle.msc_draw.specs.Verdicts.{reversal_text, verdict_text}

-- the picture of a draft's chart, without bars; its events are drawn by these ranks if they are
-- given
pub record PrintsChart (draft : Tree) (d : Drawing) (ranks : Option (List ℕ)) (picture_format : PictureFormat) (printed : List ℕ) : Type 0 where
  pub scene : Scene
  pub right : IsSceneOf draft d ranks [] scene
  pub text : printed ≡ text_in picture_format scene []

-- the picture of a draft's chart with the bars of its closest races under an architecture, below
-- the verdict over it: how many races the enforced order leaves, and how many of them are closest
pub record PrintsJudged (draft : Tree) (d : Drawing) (ranks : Option (List ℕ)) (queues : Queues) (picture_format : PictureFormat) (printed : List ℕ) : Type 0 where
  pub order : Table
  pub by_order : IsEnforced (enforced_chart d queues order)
  pub closest : List (ℕ × ℕ)
  pub are : IsClosestList (wired queues d) closest
  pub scene : Scene
  pub right : IsSceneOf draft d ranks closest scene
  pub text : printed
      ≡ text_in picture_format scene
      (verdict_text d queues (length (races_of (enforced_chart d queues order))) (length closest))

-- the one or the other, as an architecture is named
abbrev pub PrintsPicture : Tree → Drawing → Option (List ℕ) → Option Queues → PictureFormat → List ℕ → Type 0
PrintsPicture draft d ranks None picture_format printed = PrintsChart draft d ranks picture_format printed
PrintsPicture draft d ranks (Some queues) picture_format printed =
    PrintsJudged draft d ranks queues picture_format printed

-- the picture of a run of a draft's chart under an architecture that has f before e, with a bar of
-- the two
pub record PrintsRun (draft : Tree) (d : Drawing) (ranks : Option (List ℕ)) (queues : Queues) (picture_format : PictureFormat) (e f : ℕ) (printed : List ℕ) : Type 0 where
  pub run : List ℕ
  pub reverses : IsReversingRun (wired queues d) e f run
  pub scene : Scene
  pub shows : IsPopulated draft d scene
  pub laid_out : IsRunLaidOut (wired queues d) ranks run e f 0 scene
  pub text : printed ≡ text_in picture_format scene (reversal_text d queues e f)

-- the two events are no race of a chart under an architecture
abbrev pub IsNoRace : Drawing → Queues → ℕ → ℕ → Type 0
IsNoRace d queues e f = IsRace (wired queues d) e f → ⊥

-- they are one, and such a run is printed
pub record PrintsReversal (draft : Tree) (d : Drawing) (ranks : Option (List ℕ)) (queues : Queues) (picture_format : PictureFormat) (e f : ℕ) (printed : List ℕ) : Type 0 where
  pub race : IsRace (wired queues d) e f
  pub run : PrintsRun draft d ranks queues picture_format e f printed
