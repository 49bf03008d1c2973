-- Columns, some bytes further on.
use Rattle.std.proofs.Common.{◌≡◌, ℕ, ◌+◌, cond, List, take, drop, count_by, ap, ◌∙◌, arith}
use Rattle.std.proofs.Math.Seq.{take-add}
use Rattle.std.proofs.lemmas.List.Sums.{sum_by-append}
use Rattle.msc_mermaid.specs.Lines.{column_behind, is_counted}

-- the column behind so many bytes more
pub column_add : (a n : ℕ) (bytes : List ℕ) → column_behind (take (a + n) bytes) ≡ column_behind (take a bytes) + count_by is_counted (take n (drop a bytes))
column_add a n bytes =
    let e = ap (count_by is_counted) (take-add a n bytes) ∙ sum_by-append (λ b. cond (is_counted b) 1 0) (take a bytes) (take n (drop a bytes)) in omega (arith, e)
