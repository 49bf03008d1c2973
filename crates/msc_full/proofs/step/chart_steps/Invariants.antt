use Rattle.std.proofs.Common.{◌≡◌, map, take}
use Rattle.msc_full.specs.Steps.{chart_step}
use Rattle.msc_full.proofs.step.chart_steps.Given as goal

-- the steps so far
abbrev pub invariant-loop-pair : goal.invariant-loop-pair
invariant-loop-pair l = l.steps.items ≡ map (chart_step l.chart) (take l.pair-index l.pairs)
