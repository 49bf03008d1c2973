use Rattle.std.proofs.Common.{◌≡◌, ℕ, ◌+◌, ◌-◌, ◌<◌, drop, get_or, length}
use Rattle.msc_svg.specs.Layouts.{row_number}
use Rattle.msc_svg.proofs.layout.row_numbers.Given as goal

-- the rows that are gone through are the last ones, and all events of theirs have their numbers
abbrev pub invariant-loop-k : goal.invariant-loop-k
invariant-loop-k l = record {
  long : length l.numbers.items ≡ length l.scene.spots;
  each : (e : ℕ) → e < length l.scene.spots
      → get_or l.numbers.items e 0
      ≡ (length l.scene.rows - l.k) + row_number (drop (length l.scene.rows - l.k) l.scene.rows) e;
}
