-- What is in a queue: outputs of the queue whose input has not occurred.
use Rattle.std.proofs.Common.{◌≡◌, ℕ, true, false, inl, inr, List, eqb}
use Rattle.std.proofs.lemmas.Bool.{eqb-true, eq-eqb, and_parts, and_from, and_cases, not-true, not-false, not_from_false}
use Rattle.msc_chart.specs.Lists.{occurs}
use Rattle.msc_chart.specs.Charts.{partner, is_output}
use Rattle.msc_chart.specs.Orders.{WiredChart, queue}
use Rattle.msc_chart.specs.Runs.{is_waiting}
use Rattle.msc_chart.proofs.ListLemmas.{clash}

module _ (chart : WiredChart) (q : ℕ) (past : List ℕ) (s : ℕ) where
  -- an output of the queue is in it while its input has not occurred
  pub waiting_from : is_output chart.events s ≡ true → queue chart s ≡ q
      → occurs past (partner chart.events s) ≡ false → is_waiting chart q past s ≡ true
  unfolding is_waiting
  waiting_from o same out = and_from _ _ (and_from _ _ o (eq-eqb _ _ same)) (not_from_false _ out)

  -- and only then
  pub waiting_parts : is_waiting chart q past s ≡ true
      → (is_output chart.events s ≡ true) × (queue chart s ≡ q)
      × (occurs past (partner chart.events s) ≡ false)
  unfolding is_waiting
  waiting_parts h =
      let both = and_parts _ _ h in
      let own = and_parts _ _ both.0 in
      (own.0, eqb-true _ _ own.1, not-true _ both.1)

  -- so the input of an output of the queue that is not in it has occurred
  pub taken : is_output chart.events s ≡ true → queue chart s ≡ q
      → is_waiting chart q past s ≡ false → occurs past (partner chart.events s) ≡ true
  unfolding is_waiting
  taken o same fails =
      let own = and_from (is_output chart.events s) (eqb (queue chart s) q) o (eq-eqb _ _ same) in
      elim (and_cases _ _ fails) [
        | inl other ↦ clash own other
        | inr gone ↦ not-false (occurs past (partner chart.events s)) gone
      ]
