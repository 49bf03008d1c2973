use Rattle.std.proofs.Common.{◌≡◌, length}
use Rattle.msc_scenario_marks.proofs.Putting.{ArePut}
use Rattle.msc_scenario_marks.proofs.accepting.ScenarioMarks.pairs.Given as goal

-- the accepted races so far are in the set
abbrev pub invariant-loop-race : goal.invariant-loop-race
invariant-loop-race l = record {
  size : l.pairs.events ≡ length l.enforced.chart.events;
  put : ArePut l.self.accepted.now l.self.arrows.now l.pairs l.races l.race-index;
}
