-- What is asked of the races of scenarios, and what marks of their diagram accept of them.
use Rattle.std.specs.Prelude.{◌≡◌, ℕ, Bool, false, List, Option, None, Some}
use Rattle.msc_chart.specs.Lists.{Occurs}
use Rattle.msc_judge.specs.declared.options.CheckOptions.{CheckOptions}
use Rattle.msc_reason.specs.LeftOut.{is_accepted}
use Rattle.msc_reason.specs.declared.left_out.LeftOut.{LeftOut}
use Rattle.msc_scenario_marks.specs.Accepting.{accepts_race}
use Rattle.msc_diagram.specs.Arrows.{arrows_of}
use Rattle.msc_diagram.specs.declared.check.ScenarioCheck.{ScenarioCheck}
use Rattle.msc_diagram.specs.declared.check.UsedMarks.{UsedMarks}
use Rattle.msc_diagram.specs.declared.scenario.Scenario.{Scenario}

-- the same check with other options
abbrev pub with_options : ScenarioCheck → CheckOptions → ScenarioCheck
with_options k q = record k { options = q }

-- the statements that draw the events of a scenario, among those of the marked diagram
abbrev pub arrows_in : UsedMarks → Scenario → List ℕ
arrows_in m s = arrows_of m.accepted.now.statements s.spans.events

-- marks accept a race of a scenario, if marks are used
abbrev pub accepts_in : Option UsedMarks → Scenario → ℕ × ℕ → Bool
accepts_in None s p = false
accepts_in (Some m) s p = accepts_race m.accepted.now (arrows_in m s) p

-- what is left out of these races of a scenario: some kinds, and what marks accept
pub record IsLeft (k : ScenarioCheck) (s : Scenario) (races : List (ℕ × ℕ)) (left : LeftOut) : Type 0 where
  pub kinds : left.kinds ≡ k.options.allowed
  pub accepted : (p : ℕ × ℕ) → Occurs races p → is_accepted left p ≡ accepts_in k.marks s p
