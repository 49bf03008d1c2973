use Rattle.std.proofs.Common.{◌≡◌, ℕ, length}
use Rattle.msc_execution.specs.Fits.{no_ends}
use Rattle.msc_instance.specs.Handing.{AreUnder, ends_at}
use Rattle.msc_instance.proofs.wiring.without_ends.Given as goal

abbrev pub invariant-loop : goal.invariant-loop
invariant-loop l = record {
  many : length l.all.items ≡ l.counter;
  under : AreUnder l.queues l.all.items;
  none : (i : ℕ) → ends_at l.all.items i ≡ no_ends;
}
