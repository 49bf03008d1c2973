-- The findings of a scenario as people read them.
use Rattle.std.specs.Prelude.{◌≡◌, ℕ, List, []}
use Rattle.msc_chart.specs.declared.queue.Queues.{Queues}
use Rattle.msc_findings.specs.Findings.{run_rows_text}
use Rattle.msc_findings.specs.Scenarios.{scenario_finding}
use Rattle.msc_findings.specs.declared.scenario.LoopRound.{LoopRound}
use Rattle.msc_findings.specs.declared.scenario.ShownScenario.{ShownScenario}
use Rattle.msc_full.specs.declared.event.ShownText.{ShownText}
use Rattle.msc_judge.specs.Findings.{Texts}
use Rattle.msc_shown_diagram.specs.Choices.{AreChoicesSaid}
use Rattle.msc_shown_diagram.specs.Diagrams.{AreScenarioEvents, IsScenarioText}
use Rattle.msc_shown_diagram.specs.declared.lent.ScenarioEvents.{ScenarioEvents}
use Rattle.msc_diagram.specs.Arrows.{arrows_of, rounds_of}
use Rattle.msc_diagram.specs.declared.full.FullDiagram.{FullDiagram}
use Rattle.msc_diagram.specs.declared.scenario.Scenario.{Scenario}

-- the text of each finding of a scenario, and the rows of runs
abbrev pub full_texts : ShownText → ShownScenario → Texts
full_texts text x = record {
  heading = λ h. [];
  run = run_rows_text text;
  finding = scenario_finding text x;
  end = λ stale totals. [];
}

-- These are the events of a scenario, by the words of its diagram: each with the statement that draws
-- it.
abbrev pub AreEventsOf : FullDiagram → Queues → Scenario → ScenarioEvents → Type 0
AreEventsOf shown queues s events =
    AreScenarioEvents s.chart queues shown.lent.now.words.now
    (arrows_of shown.diagram.now.statements s.spans.events) (rounds_of s.spans.events) events

-- This is what findings say of a scenario: its number and that of all scenarios, its choices in words,
-- and of each finding, from the first number on, in how many scenarios its place counts.
pub record IsShownScenario (shown : FullDiagram) (scenarios number first : ℕ) (counts : List ℕ) (s : Scenario) (rounds : List (List LoopRound)) (x : ShownScenario) : Type 0 where
  pub number_is : x.number ≡ number
  pub scenarios_are : x.scenarios ≡ scenarios
  pub said : AreChoicesSaid shown.diagram.now shown.text.now s.choices x.choices.now
  pub counts_are : x.counts.now ≡ counts
  pub first_is : x.first ≡ first
  pub rounds_are : x.rounds.now ≡ rounds

-- These are the texts of the races of a scenario as people read them.
pub record AreFullTexts (shown : FullDiagram) (scenarios : ℕ) (queues : Queues) (number first : ℕ) (counts : List ℕ) (s : Scenario) (texts : Texts) : Type 0 where
  pub events : ScenarioEvents
  pub are : AreEventsOf shown queues s events
  pub text : ShownText
  pub text_is : IsScenarioText shown.lent.now events shown.names.colours text
  pub scenario : ShownScenario
  pub scenario_is : IsShownScenario shown scenarios number first counts s events.rounds.items scenario
  pub texts_are : texts ≡ full_texts text scenario
