-- The events that are free of an event, by a test: from a test for the enforced order.
use Rattle.std.proofs.Common.{◌≡◌, ℕ, ◌<◌, Bool, true, false, ◌&&◌, ◌≢◌, not, ◌⊎◌, inl, inr, length, eqb, ltb}
use Rattle.std.proofs.lemmas.Bool.{ltb-true, lt-ltb, eqb-true, eqb-false, ne_eqb, and_parts, and_from, not-true, not_from_false, false_from_ne_true}
use Rattle.msc_chart.specs.Orders.{WiredChart, Enforced, IsEnforcedOrder}
use Rattle.msc_chart.specs.Witness.{IsFree}
use Rattle.msc_race.proofs.Shared.{by_test, clash}

-- an event other than e that is not after e in an order
unfoldable pub is_free_of : WiredChart → (ℕ → ℕ → Bool) → ℕ → ℕ → Bool
is_free_of chart order e x = ltb x (length chart.events) && (not (eqb x e) && not (order e x))

module _ (chart : WiredChart) (order : ℕ → ℕ → Bool) (told : IsEnforcedOrder chart order) (e : ℕ) where
  -- what passes is free
  pub free_of_test : (x : ℕ) → is_free_of chart order e x ≡ true → IsFree chart e x
  unfolding is_free_of
  free_of_test x h =
      let both = and_parts _ _ h in
      let other = and_parts _ _ both.1 in
      let unordered = not-true _ other.1 in
      (ltb-true _ _ both.0, eqb-false x e (not-true _ other.0), λ after. clash (told.complete e x after) unordered)

  module _ (below : e < length chart.events) where
    -- what is free passes
    pub test_of_free : (x : ℕ) → x < length chart.events → x ≢ e → (Enforced chart e x → ⊥)
        → is_free_of chart order e x ≡ true
    unfolding is_free_of
    test_of_free x x_below other apart =
        let unordered = false_from_ne_true _ (λ h. apart (told.holds e x below x_below h)) in
        let neither = and_from _ _ (not_from_false _ (ne_eqb x e other)) (not_from_false _ unordered) in
        and_from _ _ (lt-ltb _ _ x_below) neither

    -- what fails is e or after it
    pub not_free : (x : ℕ) → x < length chart.events → is_free_of chart order e x ≡ false
        → (x ≡ e) ⊎ Enforced chart e x
    not_free x x_below h =
        by_test (eqb x e) (λ same. inl (eqb-true x e same))
        (λ other. by_test (order e x) (λ after. inr (told.holds e x below x_below after))
        (λ apart.
        let unordered = λ (after : Enforced chart e x). clash (told.complete e x after) apart in
        clash (test_of_free x x_below (eqb-false x e other) unordered) h))
