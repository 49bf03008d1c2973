use Rattle.std.proofs.Common.{◌≡◌, ℕ, ◌<◌, true}
use Rattle.bit_rows.specs.Tables.{cell}
use Rattle.msc_follow.proofs.closing.least_with_itself.Given as goal

-- no number so far leads to itself
abbrev pub invariant-loop-e : goal.invariant-loop-e
invariant-loop-e l = (y : ℕ) → y < l.e → cell l.n l.words y y ≡ true → ⊥
