-- The zeros of a word of a row, in a range of numbers.
use Rattle.std.proofs.Common.{◌≡◌, ℕ, ◌+◌, ◌-◌, ◌*◌, ◌/◌, ◌%◌, ◌^◌, ◌<◌, false, not, ◌&&◌, leb, ltb, sym, ap, ◌∙◌, refl, arith, bit_and, w64}
use Rattle.std.specs.Int.{bit_not}
use Rattle.std.proofs.lemmas.Bool.Decides.{nat_tests}
use Rattle.bit_rows.specs.Rows.{all_ones, bit_of}
use Rattle.bit_rows.proofs.Bits.{bit_meet, bit_other, bit_zero, high_ones, low_ones}

-- the zeros of word k within a range
pub zero_bits : (word k start end from past f : ℕ) → word < 2 ^ 64 → start < 64 * k + 64 → 64 * k < end
    → from ≡ start - 64 * k → past ≡ 64 * k + 64 - end → f / 64 ≡ k
    → bit_of (bit_and (bit_and (bit_not w64 word) (all_ones * 2 ^ from % 2 ^ 64)) (all_ones / 2 ^ past)) (f % 64)
    ≡ (not (bit_of word (f % 64)) && leb start f && ltb f end)
zero_bits word k start end from past f fits low high is_from is_past here =
    let i : ℕ = f % 64 in
    let start_same : leb from i ≡ leb start f = grind (arith, nat_tests) in
    let end_same : ltb i (64 - past) ≡ ltb f end = grind (arith, nat_tests) in
    bit_meet (bit_and (bit_not w64 word) (all_ones * 2 ^ from % 2 ^ 64)) (all_ones / 2 ^ past) i
    ∙ rw (
      bit_meet (bit_not w64 word) (all_ones * 2 ^ from % 2 ^ 64) i,
      bit_other word i fits (omega arith),
      high_ones from i (omega (arith, is_from, low)) (omega arith),
      low_ones past i (omega (arith, is_past, high)),
      start_same,
      end_same,
    ) refl

-- a word without zeros has none in a range
pub no_zeros : (word start end f : ℕ) → word < 2 ^ 64 → bit_not w64 word ≡ 0
    → bit_of 0 (f % 64) ≡ (not (bit_of word (f % 64)) && leb start f && ltb f end)
no_zeros word start end f fits none =
    let i : ℕ = f % 64 in
    let one : not (bit_of word i) ≡ false = sym (bit_other word i fits (omega arith)) ∙ ap (λ w. bit_of w i) none ∙ bit_zero i in
    bit_zero i ∙ rw one refl
