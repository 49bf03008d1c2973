use Rattle.std.proofs.Common.{◌≡◌, drop}
use Rattle.msc_import.specs.Plans.{with_sides}
use Rattle.msc_import.proofs.plan.Plan.put_sides.Given as goal

abbrev pub invariant-loop-side : goal.invariant-loop-side
invariant-loop-side l =
    with_sides l.message (drop l.side-index l.sides) l.self ≡ with_sides l.message l.sides l.fn.self
