use Rattle.std.proofs.Common.{refl, inl, inr, arith}
use Rattle.msc_reason.proofs.pair.pair_fault.Goals as goal

pub returns-then-e-events : goal.returns-then-e-events
returns-then-e-events c = inl (omega arith, refl)

pub returns-then-f-events : goal.returns-then-f-events
returns-then-f-events c = inr (omega arith, omega arith, refl)
