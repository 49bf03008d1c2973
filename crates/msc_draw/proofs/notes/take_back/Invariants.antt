use Rattle.std.proofs.Common.{◌≡◌, ◌≤◌, ◌<◌, ℕ, false, length, get_or}
use Rattle.msc_draw.proofs.notes.take_back.Given as goal

-- the notes below the number that is reached are taken back
abbrev pub invariant-loop-x : goal.invariant-loop-x
invariant-loop-x l = record {
  long : length l.table.items ≡ length l.initial.table.items;
  below : (y : ℕ) → y < l.x → get_or l.table.items y false ≡ false;
  above : (y : ℕ) → l.high ≤ y → get_or l.table.items y false ≡ false;
}
