-- The words of a diagram, lent to the findings of a scenario.
use Rattle.std.specs.Prelude.{◌≡◌, ℕ, Bool, List, map}
use Rattle.std.specs.String.{string_bytes}
use Rattle.msc_chart.specs.Drawings.{Drawing}
use Rattle.msc_chart.specs.declared.queue.Queues.{Queues}
use Rattle.msc_diagnostic.specs.declared.source.LineEnds.TheVariants.{Any}
use Rattle.msc_full.specs.Blocks.{texts_of}
use Rattle.msc_full.specs.declared.event.ShownText.{ShownText}
use Rattle.msc_shown_chart.specs.Shown.{plain_event}
use Rattle.msc_shown_diagram.specs.Shown.{shown_events, shown_rounds}
use Rattle.msc_shown_diagram.specs.Words.{plain_arrow}
use Rattle.msc_shown_diagram.specs.declared.lent.LentDiagram.{LentDiagram}
use Rattle.msc_shown_diagram.specs.declared.lent.ScenarioEvents.{ScenarioEvents}
use Rattle.msc_shown_diagram.specs.declared.words.DiagramWords.{DiagramWords}

-- these words of a diagram are lent, with its text
pub record Lends (text : List ℕ) (w : DiagramWords) (l : LentDiagram) : Type 0 where
  pub source : l.source.text.now ≡ text
  pub ends : l.source.ends ≡ Any
  pub names : texts_of l.names.items ≡ map string_bytes w.names.items
  pub words : l.words.now ≡ w

-- these are the events of a scenario, with their rounds, by the words of its diagram
pub record AreScenarioEvents (d : Drawing) (queues : Queues) (w : DiagramWords) (arrows : List ℕ) (rounds : List (List ℕ)) (s : ScenarioEvents) : Type 0 where
  pub events : map plain_event s.events.items ≡ shown_events d queues (map plain_arrow w.arrows.items) arrows
  pub rounds_are : s.rounds.items ≡ shown_rounds d w.loops.items arrows rounds

-- this is the text of the findings of a scenario with these events
pub record IsScenarioText (l : LentDiagram) (s : ScenarioEvents) (colours : Bool) (x : ShownText) : Type 0 where
  pub source : x.source.now ≡ l.source
  pub names : x.names.now ≡ l.names.items
  pub events : x.events.now ≡ s.events.items
  pub colours_are : x.colours ≡ colours

-- this is the text without events
pub record IsTextAlone (l : LentDiagram) (colours : Bool) (x : ShownText) : Type 0 where
  pub source : x.source.now ≡ l.source
  pub colours_are : x.colours ≡ colours
