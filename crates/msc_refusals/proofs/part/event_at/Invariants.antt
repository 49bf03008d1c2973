use Rattle.std.proofs.Common.{◌≡◌, drop, take}
use Rattle.msc_refusals.specs.Parts.{first_at}
use Rattle.msc_refusals.proofs.part.event_at.Given as goal

-- no event so far begins there
abbrev pub invariant-loop-e : goal.invariant-loop-e
invariant-loop-e l =
    first_at (drop l.e (take l.count l.places.stand.events)) l.at ≡ first_at (take l.count l.places.stand.events) l.at
