-- The line of a place.
use Rattle.std.proofs.Common.{◌≡◌, ◌<◌, ◌≤◌, ℕ, zero, suc, ◌+◌, ◌-◌, Bool, true, false, cond, nat_le, List, ◌∷◌, length, get_or, sym, arith}
use Rattle.std.proofs.lemmas.Bool.Decides.{nat_tests}
use Rattle.std.proofs.lemmas.List.Sorted.{IsNonDecreasingBy-from_default, IsPartitionedBy-leb}
use Rattle.std.proofs.lemmas.List.Sums.{prefix_len_is, prefix_len_passes, prefix_len_stops}
use Rattle.std.specs.List.Sorted.{IsPartitionPoint, IsPartitionedBy}
use Rattle.std.specs.List.{filter, range_with_len}
use Rattle.msc_diagnostic.specs.declared.source.LineEnds.{LineEnds}
use Rattle.msc_diagnostic.specs.Lines.{begins_line, line_of, line_starts}
use Rattle.msc_diagnostic.specs.Laws.{LinesLieBetweenEnds}
use Rattle.msc_diagnostic.proofs.LineLemmas.{no_ends}

-- the places where lines begin ascend
record Rises (from : ℕ) (xs : List ℕ) : Type 0 where
  low : (i : ℕ) → i < length xs → from ≤ get_or xs i 0
  rise : (i j : ℕ) → i ≤ j → j < length xs → get_or xs i 0 ≤ get_or xs j 0

rises_more : (from : ℕ) (xs : List ℕ) (b : Bool) → Rises (from + 1) xs → Rises from (cond b (from ∷ xs) xs)
rises_more from xs true rest = record { low = low'; rise = rise' }
  where
    low' : (i : ℕ) → i < length (from ∷ xs) → from ≤ get_or (from ∷ xs) i 0
    low' zero inside = omega arith
    low' (suc i) inside = let more = rest.low i (omega arith) in omega (arith, more)

    rise' : (i j : ℕ) → i ≤ j → j < length (from ∷ xs) → get_or (from ∷ xs) i 0 ≤ get_or (from ∷ xs) j 0
    rise' zero zero le inside = omega arith
    rise' zero (suc j) le inside = let more = rest.low j (omega arith) in omega (arith, more)
    rise' (suc i) zero le inside = absurd (omega arith)
    rise' (suc i) (suc j) le inside = rest.rise i j (omega arith) (omega arith)
rises_more from xs false rest = record { low = λ i inside. let more = rest.low i inside in omega (arith, more); rise = rest.rise }

all_rise : (test : ℕ → Bool) (n from : ℕ) → Rises from (filter test (range_with_len from n))
all_rise test zero from = record { low = λ i inside. absurd (omega arith); rise = λ i j le inside. absurd (omega arith) }
all_rise test (suc n) from = rises_more from (filter test (range_with_len (from + 1) n)) (test from) (all_rise test n (from + 1))

-- so those up to a place come first
pub starts_parted : (ends : LineEnds) (text : List ℕ) (at : ℕ) → IsPartitionedBy (λ start. nat_le start at) (line_starts ends text)
starts_parted ends text at =
    let starts = line_starts ends text in
    IsPartitionedBy-leb (λ x. x) starts at (IsNonDecreasingBy-from_default (λ x. x) starts 0 ((all_rise (begins_line ends text) (length text + 1) 0).rise))

-- and a binary search finds how many they are
pub found_line : (starts : List ℕ) (at n : ℕ) → n ≤ length starts → IsPartitionPoint (λ start. nat_le start at ≡ true) (λ start. nat_le start at ≡ false) starts n → n ≡ line_of starts at
found_line starts at n within parts =
    sym (prefix_len_is (λ start. nat_le start at) starts n 0 within (λ k less. parts.0 k 0 (omega arith) less) (λ less. parts.1 n 0 (omega arith) less))

passes : (a b : ℕ) → nat_le a b ≡ true → a ≤ b
passes a b is = grind (arith, nat_tests)

stops : (a b : ℕ) → nat_le a b ≡ false → b < a
stops a b is = grind (arith, nat_tests)

counts_first : (b : Bool) (n : ℕ) → b ≡ true → 0 < cond b (1 + n) 0
counts_first true n is = omega arith
counts_first false n is = absurd cc

-- the first line begins at 0
some_line : (ends : LineEnds) (text : List ℕ) (at : ℕ) → 0 < line_of (line_starts ends text) at
some_line ends text at =
    let next : length text + 1 ≡ suc (length text) = omega arith in
    let test : nat_le 0 at ≡ true = grind (arith, nat_tests) in
    rw next (counts_first (nat_le 0 at) _ test)

-- a place is on the line that begins last at it or before it
pub lines_lem : LinesLieBetweenEnds
lines_lem = record {
  without_ends = no_ends;
  from_first = some_line;
  begins = λ ends text at.
      let starts = line_starts ends text in
      let line = line_of starts at in
      let one = some_line ends text at in
      let test = prefix_len_passes (λ start. nat_le start at) starts (line - 1) 0 (omega (arith, one)) in
      passes _ _ test;
  before_next = λ ends text at less.
      let test = prefix_len_stops (λ start. nat_le start at) (line_starts ends text) 0 less in
      stops _ _ test;
}
