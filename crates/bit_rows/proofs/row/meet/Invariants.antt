use Rattle.std.proofs.Common.{◌≡◌, ℕ, get_or, bit_and}
use Rattle.bit_rows.proofs.Writes.{written}
use Rattle.bit_rows.proofs.row.meet.Given as goal

abbrev pub invariant-loop-k : goal.invariant-loop-k
invariant-loop-k l =
    (w : ℕ) → get_or l.row w 0 ≡ written (λ k. bit_and (get_or l.one k 0) (get_or l.other k 0)) l.initial.row l.k w
