use Rattle.std.proofs.Common.{◌≡◌, ◌+◌, fold, take}
use Rattle.msc_svg.proofs.layout.total.Given as goal

abbrev pub invariant-loop-step : goal.invariant-loop-step
invariant-loop-step l =
    l.sum ≡ fold (λ sum step. sum + step) l.start (take l.step-index l.steps)
