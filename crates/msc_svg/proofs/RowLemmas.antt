-- The numbers of the rows of all events.
use Rattle.std.proofs.Common.{◌≡◌, ℕ, ◌+◌, ◌<◌, List, drop, length, get_or, map, sym, ap, subst, ◌∙◌, arith}
use Rattle.std.specs.List.{range_with_len}
use Rattle.std.proofs.lemmas.Grind.{same_number_lists}
use Rattle.std.proofs.lemmas.List.FromFn.{get_or-map-range_with_len, length-map-range_with_len}
use Rattle.msc_picture.specs.declared.scene.Row.{Row}
use Rattle.msc_svg.specs.Layouts.{row_number}

-- numbers that are right once no row is left are the list of these
pub all_numbers : (rows : List Row) (n left : ℕ) (numbers : List ℕ) → left ≡ 0 → length numbers ≡ n
    → ((e : ℕ) → e < n → get_or numbers e 0 ≡ left + row_number (drop left rows) e)
    → numbers ≡ map (row_number rows) (range_with_len 0 n)
all_numbers rows n left numbers none long each =
    same_number_lists numbers (map (row_number rows) (range_with_len 0 n))
    (long ∙ sym (length-map-range_with_len (row_number rows) 0 n))
    (λ e below.
    let inside : e < n = subst (λ (k : ℕ). e < k) long below in
    let all : 0 + row_number rows e ≡ row_number rows e = omega arith in
    each e inside ∙ ap (λ (j : ℕ). j + row_number (drop j rows) e) none ∙ all
    ∙ sym (get_or-map-range_with_len (row_number rows) 0 n e e 0 inside (omega arith)))
