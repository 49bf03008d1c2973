-- Where notes stand in a table.
use Rattle.std.proofs.Common.{◌≡◌, ℕ, zero, suc, ◌+◌, ◌-◌, ◌<◌, ◌≤◌, Bool, true, false, cond, List, [], ◌∷◌, ◌++◌, length, get_or, max, min, refl, sym, ap, ◌∙◌, append-nil, arith}
use Rattle.std.specs.Prelude.{replicate, slice_set}
use Rattle.std.proofs.lemmas.List.{ext_get_or, get_or-set_other, length-replicate, length-set}
use Rattle.msc_picture.proofs.Ranges.{filter_next}
use Rattle.msc_draw.specs.Notes.{noted, AreWithin}

-- a table without notes has none at any place
blank : (n x : ℕ) → get_or (replicate n false) x false ≡ false
blank zero x = refl
blank (suc n) zero = refl
blank (suc n) (suc x) = blank n x

-- so what is noted in it stands between any number and 0
pub blank_within : (n low : ℕ) → n ≤ 4294967295 → AreWithin (replicate n false) low 0
blank_within n low few = record {
  few = omega (arith, few, length-replicate n false);
  inside = omega arith;
  below = λ x under. blank n x;
  above = λ x over. blank n x;
}

-- a table of which no place is noted is one without notes
pub all_blank : (table : List Bool) (n : ℕ) → length table ≡ n
    → ((x : ℕ) → get_or table x false ≡ false) → table ≡ replicate n false
all_blank table n long none =
    ext_get_or false table (replicate n false) (long ∙ sym (length-replicate n false))
    (λ x below. none x ∙ sym (blank n x))

-- numbers that are not noted add nothing
quiet : (table : List Bool) (n k m : ℕ) → n + k ≡ m
    → ((x : ℕ) → n ≤ x → x < m → get_or table x false ≡ false) → noted table m ≡ noted table n
quiet table n zero m at none = let same : m ≡ n = omega arith in ap (noted table) same
quiet table n (suc k) m at none =
    let j = n + k in
    let on : m ≡ j + 1 = omega arith in
    let here = none j (omega arith) (omega arith) in
    let more : noted table j ≡ noted table j ++ cond (get_or table j false) (j ∷ []) [] =
    sym (ap (λ (b : Bool). noted table j ++ cond b (j ∷ []) []) here ∙ append-nil (noted table j)) in
    ap (noted table) on
    ∙ sym (filter_next (λ x. get_or table x false) j (noted table j) (noted table j) refl more)
    ∙ quiet table n k j refl (λ x low high. none x low (omega (arith, high)))

module _ (table : List Bool) (low high : ℕ) where
  -- nothing is noted below the first number
  pub none_below : AreWithin table low high → noted table low ≡ []
  none_below w = quiet table 0 low low (omega arith) (λ x from under. w.below x under)

  -- from the second number on nothing comes to what is noted
  pub same_above : (n : ℕ) → AreWithin table low high → high ≤ n
      → noted table n ≡ noted table (length table)
  same_above n w reached =
      let inside = w.inside in
      let first : high + (n - high) ≡ n = omega (arith, reached) in
      let second : high + (length table - high) ≡ length table = omega (arith, inside) in
      quiet table high (n - high) n first (λ x from under. w.above x from)
      ∙ sym (quiet table high (length table - high) (length table) second
      (λ x from under. w.above x from))

  -- one more note
  pub note_within : (x : ℕ) → x < length table → AreWithin table low high
      → AreWithin (slice_set table x true) (min low x) (max high (x + 1))
  note_within x inside w = record {
    few = omega (arith, w.few, length-set table x true);
    inside = omega (arith, inside, w.inside, length-set table x true);
    below = λ y under.
        get_or-set_other table x y true false (λ same. absurd (omega (arith, same, under)))
        ∙ w.below y (omega (arith, under));
    above = λ y over.
        get_or-set_other table x y true false (λ same. absurd (omega (arith, same, over)))
        ∙ w.above y (omega (arith, over));
  }
