-- The lines of a text begin one behind the other.
use Rattle.std.proofs.Common.{◌≡◌, ◌<◌, ◌≤◌, ℕ, zero, suc, ◌+◌, ◌-◌, Bool, true, false, cond, nat_le, List, [], ◌∷◌, drop, length, get_or, sym, arith}
use Rattle.std.proofs.lemmas.List.Sorted.{IsNonDecreasingBy-from_default, IsPartitionedBy-leb}
use Rattle.std.proofs.lemmas.List.Sums.{prefix_len_is}
use Rattle.std.specs.List.Sorted.{IsPartitionPoint, IsPartitionedBy}
use Rattle.msc_mermaid.specs.Lines.{behind_mark, starts_behind, starts_of}
use Rattle.msc_scenario_marks.specs.Places.{line_in}

-- places that ascend from this one
record Rises (from : ℕ) (xs : List ℕ) : Type 0 where
  low : (i : ℕ) → i < length xs → from ≤ get_or xs i 0
  rise : (i j : ℕ) → i ≤ j → j < length xs → get_or xs i 0 ≤ get_or xs j 0

earlier : (from : ℕ) (xs : List ℕ) → Rises (from + 1) xs → Rises from xs
earlier from xs rest = record { low = λ i inside. let more = rest.low i inside in omega (arith, more); rise = rest.rise }

headed : (from : ℕ) (xs : List ℕ) → Rises (from + 1) xs → Rises from (from ∷ xs)
headed from xs rest = record { low = low'; rise = rise' }
  where
    low' : (i : ℕ) → i < length (from ∷ xs) → from ≤ get_or (from ∷ xs) i 0
    low' zero inside = omega arith
    low' (suc i) inside = let more = rest.low i (omega arith) in omega (arith, more)

    rise' : (i j : ℕ) → i ≤ j → j < length (from ∷ xs) → get_or (from ∷ xs) i 0 ≤ get_or (from ∷ xs) j 0
    rise' zero zero le inside = omega arith
    rise' zero (suc j) le inside = let more = rest.low j (omega arith) in omega (arith, more)
    rise' (suc i) zero le inside = absurd (omega arith)
    rise' (suc i) (suc j) le inside = rest.rise i j (omega arith) (omega arith)

behind : (from : ℕ) (xs : List ℕ) → Rises from xs → Rises from (drop 1 xs)
behind from [] rest = rest
behind from (x ∷ xs) rest = record { low = λ i inside. rest.low (suc i) (omega (arith, inside)); rise = λ i j le inside. rest.rise (suc i) (suc j) (omega (arith, le)) (omega (arith, inside)) }

either : (b : Bool) (from : ℕ) (xs ys : List ℕ) → Rises from xs → Rises from ys → Rises from (cond b xs ys)
either true from xs ys h k = h
either false from xs ys h k = k

none : (from : ℕ) → Rises from []
none from = record { low = λ i inside. absurd (omega (arith, inside)); rise = λ i j le inside. absurd (omega (arith, inside)) }

starts_rise : (at : ℕ) (cr : Bool) (bs : List ℕ) → Rises at (starts_behind at cr bs)
unfolding starts_behind
starts_rise at cr [] = headed at [] (none (at + 1))
starts_rise at cr (b ∷ bs) =
    let rest : (next : Bool) → Rises (at + 1) (starts_behind (at + 1) next bs) = λ next. starts_rise (at + 1) next bs in
    either _ at _ _ (headed at _ (rest true))
    (either _ at _ _ (either cr at _ _ (earlier at _ (rest false)) (headed at _ (rest false))) (headed at _ (behind (at + 1) _ (rest false))))

-- so those up to a place come first
pub starts_parted : (text : List ℕ) (at : ℕ) → IsPartitionedBy (λ start. nat_le start at) (starts_of text)
starts_parted text at =
    let starts = starts_of text in
    IsPartitionedBy-leb (λ x. x) starts at (IsNonDecreasingBy-from_default (λ x. x) starts 0 ((starts_rise (length text - length (behind_mark text)) false (behind_mark text)).rise))

-- and a binary search finds how many they are
pub found_line : (starts : List ℕ) (at n : ℕ) → n ≤ length starts → IsPartitionPoint (λ start. nat_le start at ≡ true) (λ start. nat_le start at ≡ false) starts n → n ≡ line_in starts at
found_line starts at n within parts =
    sym (prefix_len_is (λ start. nat_le start at) starts n 0 within (λ k less. parts.0 k 0 (omega arith) less) (λ less. parts.1 n 0 (omega arith) less))
