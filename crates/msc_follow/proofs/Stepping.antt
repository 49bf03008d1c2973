-- How the test for what has to be ahead is computed.
use Rattle.std.proofs.Common.{◌≡◌, ℕ, Bool, true, false, refl, sym}
use Rattle.std.proofs.lemmas.Bool.{false_from_ne_true}
use Rattle.msc_chart.specs.Charts.{partner, is_output, before}
use Rattle.msc_chart.specs.Orders.{WiredChart, queue}
use Rattle.msc_follow.specs.Steps.{is_ahead}
use Rattle.msc_follow.proofs.Steps.{IsAhead, ahead_from, ahead_parts}

-- two tests that imply each other are the same
pub same_test : (a b : Bool) → (a ≡ true → b ≡ true) → (b ≡ true → a ≡ true) → a ≡ b
same_test true b f g = sym (f refl)
same_test false true f g = g refl
same_test false false f g = refl

module _ (chart : WiredChart) (x y : ℕ) where
  -- where one of the conditions fails, there is no step ahead
  pub ahead_not : (IsAhead chart x y → ⊥) → false ≡ is_ahead chart x y
  ahead_not none = sym (false_from_ne_true _ (λ h. none (ahead_parts chart x y h)))

  -- of two outputs of one queue the inputs decide
  pub ahead_is : (b : Bool) → is_output chart.events x ≡ true → is_output chart.events y ≡ true → queue chart x ≡ queue chart y
      → (b ≡ true → before chart.events (partner chart.events x) (partner chart.events y) ≡ true)
      → (before chart.events (partner chart.events x) (partner chart.events y) ≡ true → b ≡ true) → b ≡ is_ahead chart x y
  ahead_is b ox oy same f g = same_test b (is_ahead chart x y)
      (λ h. ahead_from chart x y (record { first = ox; second = oy; one_queue = same; inputs = f h }))
      (λ h. g (ahead_parts chart x y h).inputs)
