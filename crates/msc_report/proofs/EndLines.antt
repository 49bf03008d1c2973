-- The lines of instances, one after the other.
use Rattle.std.proofs.Common.{◌≡◌, ℕ, zero, suc, ◌+◌, ◌<◌, List, [], ◌∷◌, ◌++◌, length, take, get_or, sym, ap, ◌∙◌, append_assoc, arith}
use Rattle.std.proofs.lemmas.List.{append-nil}
use Rattle.msc_chart.specs.Drawings.{Drawing}
use Rattle.msc_ending.specs.declared.end.End.{End}
use Rattle.msc_report.specs.Traces.{end_line, end_lines}

-- behind the lines of i instances, the first of them instance j, comes that of instance n, the next
pub line_after : (d : Drawing) (j i n : ℕ) (ends : List End) (end : End)
    → i < length ends → n ≡ j + i
    → end_lines d j (take (suc i) ends)
    ≡ end_lines d j (take i ends) ++ end_line d n (get_or ends i end)
line_after d j i n [] end h is = absurd (omega (arith, h))
line_after d j zero n (x ∷ xs) end h is =
    let same : n ≡ j = omega (arith, is) in
    rw same (append-nil (end_line d j x))
line_after d j (suc i) n (x ∷ xs) end h is =
    let others = line_after d (suc j) i n xs end (omega (arith, h)) (omega (arith, is)) in
    ap (λ t. end_line d j x ++ t) others
    ∙ sym (append_assoc (end_line d j x) (end_lines d (suc j) (take i xs)) _)

-- behind the lines of the instances before i comes that of i
pub next_line : (d : Drawing) (i : ℕ) (ends : List End) (end : End) → i < length ends
    → end_lines d 0 (take (i + 1) ends)
    ≡ end_lines d 0 (take i ends) ++ end_line d i (get_or ends i end)
next_line d i ends end h =
    let next : i + 1 ≡ suc i = omega arith in
    rw next (line_after d 0 i i ends end h (omega arith))
