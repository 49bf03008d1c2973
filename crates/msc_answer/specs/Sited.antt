-- Where the events of a text stand, as answers show it.
use Rattle.std.specs.Prelude.{◌≡◌, ℕ, Bool, true, false, List, Option, None, Some}
use Rattle.msc_import.specs.declared.importing.Imported.{Imported}
use Rattle.msc_parser.specs.Grammar.{Tree}
use Rattle.msc_parser.specs.Parsing.{HasDraft}
use Rattle.msc_place.specs.EventPositions.{AreEventPositions, EventPositionsIn}
use Rattle.msc_place.specs.declared.position.Position.{Position}
use Rattle.msc_report.specs.Styles.{event_positions_in}
use Rattle.msc_report.specs.declared.style.Style.{Style}
use Rattle.msc_answer.specs.Charted.{ChartedText}
use Rattle.msc_answer.specs.declared.tasks.EventStyle.{EventStyle}

-- the events of a text stand at these positions: in a diagram at those of their arrows
abbrev pub StandAt : Option Imported → List ℕ → List Position → Type 0
StandAt None text positions = (t : Tree) → HasDraft text t → AreEventPositions text t positions
StandAt (Some is) text positions = positions ≡ is.places

-- the events of the text of a file of this name stand there
pub record HasEventPositions (file : List ℕ) (s : ChartedText) (p : EventPositionsIn) : Type 0 where
  pub file_is : p.file ≡ file
  pub stand : StandAt s.imported s.text p.positions

-- the same where it is wanted, and else nothing
abbrev pub AreSited : Bool → List ℕ → ChartedText → Option EventPositionsIn → Type 0
AreSited wanted file s None = wanted ≡ false
AreSited wanted file s (Some p) = (wanted ≡ true) × HasEventPositions file s p

-- an answer to a text of this file speaks so
pub record IsStyle (event_style : EventStyle) (file : List ℕ) (s : ChartedText) (style : Style) : Type 0 where
  pub words : style.words ≡ event_style.words
  pub event_positions : AreSited event_style.places file s (event_positions_in style)
