use Rattle.std.proofs.Common.{◌≡◌, drop}
use Rattle.msc_import.specs.Plans.{plans_of, plans_on}
use Rattle.msc_import.proofs.plan.plans_of.Given as goal

abbrev pub invariant-loop-step : goal.invariant-loop-step
invariant-loop-step l =
    plans_on l.manner (drop l.step-index l.steps) l.plans.items ≡ plans_of l.manner l.steps l.lines
