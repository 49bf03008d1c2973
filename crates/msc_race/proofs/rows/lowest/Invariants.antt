use Rattle.std.proofs.Common.{◌≡◌, ℕ, ◌/◌, ◌<◌, true, length}
use Rattle.bit_rows.specs.Rows.{bit_of}
use Rattle.msc_race.specs.Rows.{is_masked}
use Rattle.msc_race.proofs.rows.lowest.Given as goal

-- the word has a bit for each word that has a number yet, and for none past the rows
abbrev pub invariant-loop-left : goal.invariant-loop-left
invariant-loop-left l =
    ((y : ℕ) → is_masked l.a l.b l.mask y ≡ true → bit_of l.left (y / 64) ≡ true)
    × ((k : ℕ) → bit_of l.left k ≡ true → k < length l.a)

abbrev pub decreases-loop-left : goal.decreases-loop-left
decreases-loop-left l = l.left
