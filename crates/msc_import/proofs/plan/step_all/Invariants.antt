use Rattle.std.proofs.Common.{◌≡◌, [], length, take, drop}
use Rattle.msc_import.specs.Plans.{planned_all}
use Rattle.msc_import.proofs.plan.step_all.Given as goal

abbrev pub invariant-loop-line : goal.invariant-loop-line
invariant-loop-line l = record {
  room : length l.plans.items ≡ length l.fn.plans.items;
  taken : planned_all l.manner l.step (take l.line l.plans.items) (drop l.line l.plans.items) ≡ planned_all l.manner l.step [] l.fn.plans.items;
}
