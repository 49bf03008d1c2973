-- Of which chart lines can be written.
use Rattle.std.specs.Prelude.{ℕ, List, MatchOption, Option, length}
use Rattle.msc_chart.specs.Drawings.{Drawing}
use Rattle.msc_place.specs.EventPositions.{EventPositionsIn}
use Rattle.msc_report.specs.EventTexts.{AreTextsOf}
use Rattle.msc_report.specs.EventPositionTexts.{AreEventPositionsOf}
use Rattle.msc_report.specs.Following.{AreStepsOf}
use Rattle.msc_report.specs.Styles.{event_positions_in}
use Rattle.msc_report.specs.declared.editor.EditorLines.{EditorLines}
use Rattle.msc_report.specs.declared.lines.Lines.{Lines}

-- these are the places of so many events, which are printed
abbrev pub ArePlacesIn : Option EventPositionsIn → ℕ → List (List ℕ) → Type 0
ArePlacesIn event_positions count places = MatchOption event_positions ⊥ (λ s. AreEventPositionsOf s count places)

-- the texts of events, where they were made, are those of the chart, and their places are those of
-- the style
pub record FitsLines (d : Drawing) (lines : Lines) : Type 0 where
  pub texts : MatchOption lines.texts (Unit {0}) (AreTextsOf d)
  pub places : MatchOption lines.places (Unit {0}) (ArePlacesIn (event_positions_in lines.style) (length d.events))

-- the texts and places of events, where they were made, are those of the chart and of the text, and
-- the ring is of events of the chart
pub record FitsEditor (d : Drawing) (lines : EditorLines) : Type 0 where
  pub made : MatchOption lines.made (Unit {0}) (λ m. AreTextsOf d m.texts × AreEventPositionsOf lines.event_positions.now (length d.events) m.places)
  pub ring : AreStepsOf d lines.ring.now
