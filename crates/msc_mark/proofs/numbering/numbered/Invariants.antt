use Rattle.std.proofs.Common.{◌≡◌, ◌≤◌, ◌<◌, ℕ, get_or, length}
use Rattle.std.specs.List.{IsDistinct}
use Rattle.msc_mark.specs.Named.{IsNumbered}
use Rattle.msc_mark.proofs.Idents.{same}
use Rattle.msc_mark.proofs.numbering.numbered.Given as goal

-- the events below e are numbered
abbrev pub invariant-loop-e : goal.invariant-loop-e
invariant-loop-e l = record {
  distinct : IsDistinct same l.idents.keys;
  few : length l.idents.keys ≤ l.e;
  all : length l.numbers.items ≡ l.e;
  each : (f : ℕ) → f < l.e → IsNumbered l.chart l.idents.keys f (get_or l.numbers.items f 0);
}
