use Rattle.std.proofs.Common.{◌≡◌, take}
use Rattle.std.specs.List.{flat_map}
use Rattle.msc_import.specs.Places.{sites_in}
use Rattle.msc_import.proofs.spanning.sites_in.Given as goal

abbrev pub invariant-loop-plan : goal.invariant-loop-plan
invariant-loop-plan l = l.spans.items ≡ flat_map sites_in (take l.plan-index l.plans)
