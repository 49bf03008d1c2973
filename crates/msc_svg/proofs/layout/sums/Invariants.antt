use Rattle.std.proofs.Common.{◌≡◌, ◌++◌, drop}
use Rattle.msc_svg.specs.Layouts.{sums}
use Rattle.msc_svg.proofs.layout.sums.Given as goal

abbrev pub invariant-loop-step : goal.invariant-loop-step
invariant-loop-step l =
    l.all.items ++ sums l.sum (drop l.step-index l.steps) ≡ sums l.start l.steps
