-- In which format the races of a chart are told, and its sticks.
use Rattle.std.specs.Prelude.{◌≡◌, ℕ, Bool, List, [], Option, None, Some}
use Rattle.std.specs.String.{string_bytes}
use Rattle.msc_chart.specs.Drawings.{Drawing}
use Rattle.msc_chart.specs.declared.queue.Queues.{Queues}
use Rattle.msc_diagram.specs.Arrows.{arrows_of, rounds_of}
use Rattle.msc_findings.specs.declared.format.Following.TheVariants.{Help}
use Rattle.msc_findings.specs.declared.format.FullFormat.{FullFormat}
use Rattle.msc_mark.specs.declared.mark.Mark.{Mark}
use Rattle.msc_report.specs.declared.ready_format.ReadyFormat.TheVariants as ready_formats
use Rattle.msc_shown_chart.specs.Charts.{IsFullFormat}
use Rattle.msc_shown_diagram.specs.Diagrams.{AreScenarioEvents, IsScenarioText, Lends}
use Rattle.msc_shown_diagram.specs.declared.lent.LentDiagram.{LentDiagram}
use Rattle.msc_shown_diagram.specs.declared.lent.ScenarioEvents.{ScenarioEvents}
use Rattle.msc_text.specs.declared.judging.ChartFormat.{ChartFormat}
use Rattle.msc_text.specs.declared.judging.ChartFormat.TheVariants as chart_formats
use Rattle.msc_text.specs.declared.stick_format.StickFormat.{StickFormat}
use Rattle.msc_text.specs.declared.stick_format.StickFormat.TheVariants as stick_formats
use Rattle.msc_answer.specs.Charted.{ChartedText}
use Rattle.msc_answer.specs.ShownDiagrams.{line_in, IsShownDiagram}
use Rattle.msc_answer.specs.Sited.{HasEventPositions, IsStyle}
use Rattle.msc_answer.specs.declared.importing.ImportedDiagram.{ImportedDiagram}
use Rattle.msc_answer.specs.declared.shown_diagram.DiagramText.{DiagramText}
use Rattle.msc_answer.specs.declared.shown_diagram.ShownDiagram.{ShownDiagram}
use Rattle.msc_answer.specs.declared.tasks.CheckArgs.{CheckArgs}
use Rattle.msc_answer.specs.declared.tasks.ReadyArgs.{ReadyArgs}
use Rattle.msc_answer.specs.declared.tasks.Format.{Format}
use Rattle.msc_answer.specs.declared.tasks.Format.TheVariants as formats

-- the format of a form, for the chart of the text of a file of this name, with these marks
abbrev pub IsFormatIn : Format → CheckArgs → List ℕ → ChartedText → Option (List Mark) → ChartFormat → Type 0
IsFormatIn formats.Text c file s marks (chart_formats.Lines style) = IsStyle c.event_style file s style
IsFormatIn formats.Count c file s marks (chart_formats.Count name) = name.now ≡ file
IsFormatIn formats.Lines c file s marks (chart_formats.Editor event_positions) = HasEventPositions file s event_positions.now
IsFormatIn formats.Full c file s marks (chart_formats.Full full) = IsFullFormat s.chart c.queues file s.text marks c.colours c.following full
IsFormatIn format c file s marks chart_format = ⊥

-- the format that is asked for
abbrev pub IsFormat : CheckArgs → List ℕ → ChartedText → Option (List Mark) → ChartFormat → Type 0
IsFormat c file s marks chart_format = IsFormatIn c.format c file s marks chart_format

-- this is the diagram of a text of which this was imported
pub record IsDrawingOf (text : List ℕ) (x : ImportedDiagram) (told : DiagramText) : Type 0 where
  pub text_is : told.text.now ≡ text
  pub diagram_is : told.diagram.now ≡ x.diagram
  pub line_is : told.line ≡ line_in x.number text

-- This is the format of findings on a scenario of a diagram under an architecture, in a file of this
-- name: by the words of the diagram, and the events of the scenario. It has no marks.
pub record IsFullScenario (d : Drawing) (queues : Queues) (file text : List ℕ) (colours : Bool) (x : ImportedDiagram) (full : FullFormat) : Type 0 where
  pub told : DiagramText
  pub file_is : told.file.now ≡ file
  pub told_is : IsDrawingOf text x told
  pub shown : ShownDiagram
  pub is : IsShownDiagram told x.imported.spans.shown d queues shown
  pub lent : LentDiagram
  pub lends : Lends text shown.words lent
  pub events : ScenarioEvents
  pub are : AreScenarioEvents d queues lent.words.now (arrows_of x.diagram.statements x.imported.spans.events) (rounds_of x.imported.spans.events) events
  pub text_of : IsScenarioText lent events colours full.text
  pub unmarked : full.marks.now ≡ []
  pub label : full.file.now ≡ string_bytes shown.label
  pub queues_are : full.queues.now ≡ string_bytes shown.queues
  pub following : full.following ≡ Help

-- the format of findings on the chart of a text, without marks: the text is a diagram, or draws its chart
abbrev pub IsFullBy : Option ImportedDiagram → Drawing → Queues → List ℕ → List ℕ → Bool → FullFormat → Type 0
IsFullBy None d queues file text colours full = IsFullFormat d queues file text None colours Help full
IsFullBy (Some x) d queues file text colours full = IsFullScenario d queues file text colours x full

-- the format of a form, of sticks; no marks belong to these
abbrev pub IsReadyFormatIn : Format → ReadyArgs → List ℕ → ChartedText → StickFormat → Type 0
IsReadyFormatIn formats.Text x file s (stick_formats.Plain (ready_formats.Lines style)) = IsStyle x.event_style file s style
IsReadyFormatIn formats.Count x file s (stick_formats.Plain (ready_formats.Count name)) = name.now ≡ file
IsReadyFormatIn formats.Lines x file s (stick_formats.Plain (ready_formats.Editor event_positions)) = HasEventPositions file s event_positions.now
IsReadyFormatIn formats.Full x file s (stick_formats.Full full) = IsFullBy s.drawing s.chart x.queues file s.text x.colours full
IsReadyFormatIn format x file s stick_format = ⊥

-- the format of sticks that is asked for
abbrev pub IsReadyFormat : ReadyArgs → List ℕ → ChartedText → StickFormat → Type 0
IsReadyFormat x file s stick_format = IsReadyFormatIn x.format x file s stick_format
