use Rattle.std.proofs.Common.{◌≡◌, map, take}
use Rattle.msc_full.specs.Rings.{spoken_step}
use Rattle.msc_full.proofs.ring.spoken_steps.Given as goal

-- the steps so far, as sentences name them
abbrev pub invariant-loop-step : goal.invariant-loop-step
invariant-loop-step l = l.spoken.items ≡ map spoken_step (take l.step-index l.steps)
