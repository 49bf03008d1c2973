use Rattle.std.proofs.Common.{◌≡◌, ℕ, ◌≤◌, ◌&&◌, ◌||◌, max, nat_eq}
use Rattle.msc_picture.specs.Signs.{has_at}
use Rattle.msc_picture.proofs.SpanLemmas.{is_from_to}
use Rattle.msc_picture.proofs.signs.Signs.put_band.Given as goal

-- the band's rows before the one that is reached have its instance
abbrev pub invariant-loop-r : goal.invariant-loop-r
invariant-loop-r l = record {
  from : l.band.first ≤ l.r;
  within : l.r ≤ max l.band.first l.end;
  has : (x i : ℕ) → has_at l.self.instances.items x i
      ≡ (has_at l.initial.self.instances.items x i
      || (is_from_to l.band.first l.r x && nat_eq i l.band.instance));
}
