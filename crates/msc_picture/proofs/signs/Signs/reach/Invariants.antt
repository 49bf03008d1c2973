use Rattle.std.proofs.Common.{◌≡◌, ℕ, length}
use Rattle.msc_picture.specs.Signs.{has_at}
use Rattle.msc_picture.proofs.signs.Signs.reach.Given as goal

-- there are so many places, and they have what they had
abbrev pub invariant-loop : goal.invariant-loop
invariant-loop l = record {
  many : length l.self.instances.items ≡ l.counter;
  same : (x i : ℕ) → has_at l.self.instances.items x i ≡ has_at l.initial.self.instances.items x i;
}
