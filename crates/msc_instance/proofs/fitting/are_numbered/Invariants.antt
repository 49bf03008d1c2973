use Rattle.std.proofs.Common.{◌≡◌, ◌-◌, ◌≤◌, ◌↔◌, length, drop}
use Rattle.msc_instance.specs.Fitting.{used_numbers_from, numbers_in, numbers_of_ends}
use Rattle.msc_instance.proofs.fitting.are_numbered.Given as goal

abbrev pub invariant-loop-q : goal.invariant-loop-q
invariant-loop-q g l = record {
  within : l.k ≤ length l.ends;
  rest : (numbers_of_ends l.ends ≡ numbers_in l.counts)
      ↔ (numbers_of_ends (drop l.k l.ends) ≡ used_numbers_from l.counts l.q (length l.counts - l.q));
}
