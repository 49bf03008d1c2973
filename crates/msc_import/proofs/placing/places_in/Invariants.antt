use Rattle.std.proofs.Common.{◌≡◌, take}
use Rattle.std.specs.List.{flat_map}
use Rattle.msc_import.specs.Places.{places_in}
use Rattle.msc_import.proofs.placing.places_in.Given as goal

abbrev pub invariant-loop-plan : goal.invariant-loop-plan
invariant-loop-plan l = l.places.items ≡ flat_map places_in (take l.plan-index l.plans)
