use Rattle.std.proofs.Common.{◌≡◌, map, take}
use Rattle.std.specs.String.{string_bytes}
use Rattle.msc_wording.specs.Rings.{ring_step}
use Rattle.msc_wording.proofs.ring.first_steps.Given as goal

-- the steps so far have notes
abbrev pub invariant-loop-step : goal.invariant-loop-step
invariant-loop-step l =
    map string_bytes l.notes.items
    ≡ map (λ step. ring_step (map (λ name. name.now) l.names) step step.order) (take l.step-index l.steps)
