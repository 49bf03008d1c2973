-- Rows of a table that gain the numbers that pass a test, one after the other.
use Rattle.std.proofs.Common.{◌≡◌, ℕ, ◌⊎◌, Bool, true, ◌&&◌, ◌||◌, inl, inr, eqb, List, refl, sym, ◌∙◌, subst}
use Rattle.std.proofs.lemmas.Bool.{and_from, and_parts, eq-eqb, eqb-true, or_cases, or_left, or_right}
use Rattle.bit_rows.specs.Tables.{cell}
use Rattle.msc_follow.specs.Tables.{GainsSo, HasGained}

module _ (n : ℕ) (old : List ℕ) (x : ℕ) (test : ℕ → Bool) where
  -- at first nothing is gained
  pub gains_none : (done : ℕ → Type 0) → ((y : ℕ) → done y → test y ≡ true → ⊥) → GainsSo n old old x test done
  gains_none done none = record { kept = λ z y h. h; only = λ z y h. inl h; gained = λ y d h. absurd (none y d h) }

  module _ (now : List ℕ) (done more : ℕ → Type 0) (gains : GainsSo n old now x test done) where
    -- if nothing else that is done passes, nothing changes
    pub gains_same : ((y : ℕ) → more y → test y ≡ true → done y) → GainsSo n old now x test more
    gains_same step = record { kept = gains.kept; only = gains.only; gained = λ y m h. gains.gained y (step y m h) h }

    -- one number more that passes is put into the row
    pub gains_put : (new : List ℕ) (y : ℕ) → test y ≡ true
        → ((z w : ℕ) → cell n new z w ≡ (cell n now z w || (eqb z x && eqb w y)))
        → ((w : ℕ) → more w → test w ≡ true → done w ⊎ (w ≡ y)) → GainsSo n old new x test more
    gains_put new y passes put step = record {
      kept = λ z w h. put z w ∙ or_left _ _ (gains.kept z w h);
      only = λ z w h. elim (or_cases _ _ (sym (put z w) ∙ h)) [
        | inl before ↦ gains.only z w before
        | inr here ↦
            let p = and_parts _ _ here in
            inr (eqb-true z x p.0, subst (λ (v : ℕ). test v ≡ true) (sym (eqb-true w y p.1)) passes)
      ];
      gained = λ w m h. elim (step w m h) [
        | inl d ↦ put x w ∙ or_left _ _ (gains.gained w d h)
        | inr is ↦ put x w ∙ or_right _ _ (and_from _ _ (eq-eqb x x refl) (eq-eqb w y is))
      ];
    }

-- what two tests gain one after the other is what either passes
pub gains_either : (n : ℕ) (a b c : List ℕ) (x : ℕ) (p q : ℕ → Bool) → HasGained n a b x p → HasGained n b c x q
    → HasGained n a c x (λ y. p y || q y)
gains_either n a b c x p q first second = record {
  kept = λ z y h. second.kept z y (first.kept z y h);
  only = λ z y h. elim (second.only z y h) [
    | inl before ↦ elim (first.only z y before) [
      | inl old ↦ inl old
      | inr here ↦ inr (here.0, or_left _ _ here.1)
    ]
    | inr here ↦ inr (here.0, or_right _ _ here.1)
  ];
  gained = λ y d h. elim (or_cases _ _ h) [
    | inl one ↦ second.kept x y (first.gained y tt one)
    | inr two ↦ second.gained y tt two
  ];
}
