use Rattle.std.proofs.Common.{◌≡◌, ℕ, get_or, bit_or}
use Rattle.bit_rows.proofs.Writes.{written}
use Rattle.bit_rows.proofs.row.join.Given as goal

abbrev pub invariant-loop-k : goal.invariant-loop-k
invariant-loop-k l =
    (w : ℕ) → get_or l.row w 0 ≡ written (λ k. bit_or (get_or l.initial.row k 0) (get_or l.other k 0)) l.initial.row l.k w
