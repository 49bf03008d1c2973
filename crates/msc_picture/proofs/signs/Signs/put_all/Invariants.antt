use Rattle.std.proofs.Common.{◌≡◌, ℕ, ◌&&◌, ◌||◌, nat_eq, take}
use Rattle.std.specs.List.{list_any}
use Rattle.msc_picture.specs.Signs.{has_at}
use Rattle.msc_picture.proofs.signs.Signs.put_all.Given as goal

abbrev pub invariant-loop-e : goal.invariant-loop-e
invariant-loop-e l =
    (x i : ℕ) → has_at l.self.instances.items x i
    ≡ (has_at l.initial.self.instances.items x i
    || (list_any (nat_eq x) (take l.e-index l.events) && nat_eq i l.instance))
