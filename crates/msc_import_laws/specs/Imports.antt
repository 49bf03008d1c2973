-- What holds of every import: its draft is a chart, the text is a run of it, and what is enforced
-- goes down the text.
use Rattle.std.specs.Prelude.{◌≡◌, ℕ, ◌/◌, ◌<◌, ◌≤◌, List, [], Option, Ok}
use Rattle.msc_parser.specs.Grammar.{Tree}
use Rattle.msc_chart.specs.declared.queue.Queues.{Queues}
use Rattle.msc_chart.specs.Charts.{Visual}
use Rattle.msc_chart.specs.Drawings.{chart_events, chart_of}
use Rattle.msc_chart.specs.Faults.{IsFaultless}
use Rattle.msc_chart.specs.Events.{DraftEvent, events_of}
use Rattle.msc_chart.specs.Lists.{Occurs, StandsAt}
use Rattle.msc_chart.specs.Orders.{Enforced, wired}
use Rattle.msc_import.specs.declared.importing.Imported.{Imported}
use Rattle.msc_import.specs.declared.importing.Language.{Language}
use Rattle.msc_import.specs.declared.plan.Manner.{Manner}
use Rattle.msc_mermaid.specs.declared.statement.Cross.{Cross}
use Rattle.msc_mermaid.specs.declared.statement.Diagram.{Diagram}
use Rattle.msc_import.specs.declared.drawings.Scenario.{Scenario}
use Rattle.msc_import.specs.declared.whole.Scenarios.{Scenarios}
use Rattle.msc_import.specs.Drafting.{drawn}
use Rattle.msc_import.specs.Importing.{Wanted, chosen, diagram_in, imported}
use Rattle.msc_scenarios.specs.Laws.{walked}
use Rattle.msc_scenarios.specs.Naming.{names_behind}
use Rattle.msc_import.specs.Whole.{WantedAll, imported_all}
use Rattle.msc_import_laws.specs.Drawn.{heights_in}
use Rattle.msc_import_laws.specs.Ends.{IsEndOfItsArrow}
use Rattle.msc_import_laws.specs.Heights.{IsDownward, IsOnlyOrder, IsWholeRun, height}
use Rattle.msc_import_laws.specs.Outlined.{IsOutlined}

-- how a text is read: in which language it is, what arrows with a cross are, and of Markdown which
-- diagram
pub record Reading : Type 0 where
  pub language : Language
  pub cross : Option Cross
  pub fence : Option ℕ

-- the same of what is wanted of a text
abbrev pub read_as : Wanted → Reading
read_as x = record { language = x.language; cross = x.cross; fence = x.fence }

abbrev pub all_read_as : WantedAll → Reading
all_read_as x = record { language = x.language; cross = x.cross; fence = x.fence }

-- the draft is that of the text's scenario with these choices: the text has this diagram, which is
-- drawn so
pub record IsScenarioOf (how : Reading) (manner : Manner) (text : List ℕ) (d : Diagram) (given : List ℕ) (draft : Tree) : Type 0 where
  pub name : List ℕ
  pub diagram : diagram_in how.language how.cross how.fence text ≡ Ok d
  pub scenario : drawn manner name d given ≡ Ok draft

-- the diagrams of texts have few lines, arrows between these, and a number of its own for each
-- arrow
abbrev pub TextsAreOutlined : Type 0
TextsAreOutlined =
    (how : Reading) (text : List ℕ) (d : Diagram) → diagram_in how.language how.cross how.fence text ≡ Ok d → IsOutlined d

-- what is imported of a text is a scenario of it
abbrev pub ImportsAreScenarios : Type 0
ImportsAreScenarios =
    (x : Wanted) (text : List ℕ) (is : Imported) → imported x text ≡ Ok is
    → (d : Diagram) × (given : List ℕ) × (chosen x.choices d ≡ Ok given) × IsScenarioOf (read_as x) x.manner text d given is.draft

-- and so is each of all of them, with its choices
abbrev pub AllAreScenarios : Type 0
AllAreScenarios =
    (x : WantedAll) (text : List ℕ) (all : Scenarios) (s : Scenario) → imported_all x text ≡ Ok all → Occurs all.list s
    → (d : Diagram) × IsScenarioOf (all_read_as x) x.manner text d s.choices s.draft

-- no fault of charts stands in what is imported of a text
abbrev pub ImportsAreCharts : Type 0
ImportsAreCharts = (x : Wanted) (text : List ℕ) (is : Imported) → imported x text ≡ Ok is → IsFaultless is.draft

-- nor in any of its scenarios
abbrev pub ScenariosAreCharts : Type 0
ScenariosAreCharts =
    (x : WantedAll) (text : List ℕ) (all : Scenarios) (s : Scenario) → imported_all x text ≡ Ok all → Occurs all.list s
    → IsFaultless s.draft

-- The events of a scenario in the order of the text, that is from top to bottom, are a whole run of
-- its chart under each architecture, and it keeps the drawn order.
abbrev pub TheTextIsARun : Type 0
TheTextIsARun =
    (how : Reading) (manner : Manner) (text : List ℕ) (d : Diagram) (given : List ℕ) (draft : Tree) (queues : Queues) (order : List ℕ)
    → IsScenarioOf how manner text d given draft → IsDownward (heights_in manner d given) (chart_events draft) order
    → IsWholeRun (wired queues (chart_of draft)) order

-- there is one such order of the events
abbrev pub TheTextIsOneOrder : Type 0
TheTextIsOneOrder =
    (how : Reading) (manner : Manner) (text : List ℕ) (d : Diagram) (given : List ℕ) (draft : Tree) → IsScenarioOf how manner text d given draft
    → (order : List ℕ) × IsOnlyOrder (heights_in manner d given) (chart_events draft) order

-- the number of an event's arrow in the path of a scenario
abbrev pub arrow_at : Manner → Diagram → List ℕ → ℕ → ℕ
arrow_at manner d given e = height (heights_in manner d given) e / 4

-- each event of a scenario's draft is an end of its arrow
abbrev pub EventsAreEndsOfTheirArrows : Type 0
EventsAreEndsOfTheirArrows =
    (how : Reading) (manner : Manner) (text : List ℕ) (d : Diagram) (given : List ℕ) (draft : Tree) (e : ℕ) (v : DraftEvent)
    → IsScenarioOf how manner text d given draft → StandsAt (events_of draft) e v
    → IsEndOfItsArrow manner.own (names_behind [] d.lines) (walked d given).steps v (height (heights_in manner d given) e)

-- What is enforced goes down the text: where e is enforced before f, under whichever architecture,
-- e stands above f, and its arrow is that of f or one above it.
abbrev pub EnforcedGoesDownTheText : Type 0
EnforcedGoesDownTheText =
    (how : Reading) (manner : Manner) (text : List ℕ) (d : Diagram) (given : List ℕ) (draft : Tree) (queues : Queues) (e f : ℕ)
    → IsScenarioOf how manner text d given draft → Enforced (wired queues (chart_of draft)) e f
    → (height (heights_in manner d given) e < height (heights_in manner d given) f) × (arrow_at manner d given e ≤ arrow_at manner d given f)

-- and so does the visual order
abbrev pub VisualGoesDownTheText : Type 0
VisualGoesDownTheText =
    (how : Reading) (manner : Manner) (text : List ℕ) (d : Diagram) (given : List ℕ) (draft : Tree) (e f : ℕ)
    → IsScenarioOf how manner text d given draft → Visual (chart_events draft) e f
    → (height (heights_in manner d given) e < height (heights_in manner d given) f) × (arrow_at manner d given e ≤ arrow_at manner d given f)
