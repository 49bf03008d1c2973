use Rattle.std.proofs.Common.{◌≡◌, ℕ, ◌<◌, [], get_or, length}
use Rattle.msc_arrow_marks.specs.Accepting.{row_at}
use Rattle.msc_arrow_marks.proofs.accepting.rows_of.Given as goal

-- the rows of the statements so far are there
abbrev pub invariant-loop-i : goal.invariant-loop-i
invariant-loop-i l = record {
  size : length l.rows.items ≡ l.i;
  each : (i : ℕ) → i < l.i → get_or l.rows.items i [] ≡ row_at l.marks l.arrows l.usual i;
}
