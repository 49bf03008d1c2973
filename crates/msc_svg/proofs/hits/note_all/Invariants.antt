use Rattle.std.proofs.Common.{◌≡◌, ℕ, ◌<◌, ◌||◌, false, get_or, length, nat_eq, take}
use Rattle.std.specs.List.{list_any}
use Rattle.msc_svg.proofs.hits.note_all.Given as goal

abbrev pub invariant-loop-e : goal.invariant-loop-e
invariant-loop-e l = record {
  long : length l.hits.items ≡ length l.initial.hits.items;
  each : (x : ℕ) → x < length l.initial.hits.items
      → get_or l.hits.items x false
      ≡ (get_or l.initial.hits.items x false || list_any (nat_eq x) (take l.e-index l.events));
}
