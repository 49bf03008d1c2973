use Rattle.std.proofs.Common.{◌≡◌, replicate}
use Rattle.msc_import.specs.Plans.{unplanned}
use Rattle.msc_import.proofs.plan.unplanned.Given as goal

abbrev pub invariant-loop : goal.invariant-loop
invariant-loop l = l.plans.items ≡ replicate l.counter unplanned
