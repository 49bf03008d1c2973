-- What stands in a queue, and which inputs have arrived, when an event of another queue occurs.
use Rattle.std.proofs.Common.{◌≡◌, ◌≢◌, ℕ, ◌<◌, true, List, [], ◌∷◌, ◌++◌, length, get_or, sym, subst}
use Rattle.msc_chart.specs.Lists.{occurs, IsFirst}
use Rattle.msc_chart.specs.Charts.{partner, is_output}
use Rattle.msc_chart.specs.Orders.{WiredChart, queue}
use Rattle.msc_chart.specs.Runs.{Run, is_waiting, state}
use Rattle.msc_race.specs.QueuedRuns.{IsQueue, IsArrived}
use Rattle.msc_race.proofs.Runs.EventLemmas.{output_below}
use Rattle.msc_chart.proofs.Waiting.{waiting_parts}
use Rattle.msc_race.proofs.Making.StateLemmas.{distinct, distinct_filter}
use Rattle.msc_chart.proofs.ListLemmas.{IsDistinct, filter-passes}

module _ (chart : WiredChart) (past : List ℕ) where
  -- what is in a queue is an output of it
  pub member : (p y : ℕ) → occurs (state chart p past) y ≡ true → (is_output chart.events y ≡ true) × (y < length chart.events) × (queue chart y ≡ p)
  member p y there =
      let w = waiting_parts chart p past y (filter-passes (is_waiting chart p past) past y there) in
      (w.0, output_below chart.events y w.0, w.1)

  -- a queue holds no output twice
  pub once : Run chart past → (p : ℕ) → IsDistinct (state chart p past)
  once run p = distinct_filter (is_waiting chart p past) past (distinct chart [] past run)

  -- an event occurs that changes its own queue alone
  module _ (x : ℕ) (elsewhere : (p : ℕ) → queue chart x ≢ p → state chart p (past ++ x ∷ []) ≡ state chart p past) where
    -- what had arrived from another queue has arrived
    pub still_arrived : (y : ℕ) → queue chart y ≢ queue chart x → IsArrived chart (λ p. state chart p past) y → IsArrived chart (λ p. state chart p (past ++ x ∷ [])) y
    still_arrived y other a = record {
      input = a.input;
      first = subst (λ (l : List ℕ). IsFirst l (partner chart.events y)) (sym (elsewhere (queue chart y) (λ h. other (sym h)))) a.first;
    }

    -- and the other way round
    pub had_arrived : (y : ℕ) → queue chart y ≢ queue chart x → IsArrived chart (λ p. state chart p (past ++ x ∷ [])) y → IsArrived chart (λ p. state chart p past) y
    had_arrived y other a = record {
      input = a.input;
      first = subst (λ (l : List ℕ). IsFirst l (partner chart.events y)) (elsewhere (queue chart y) (λ h. other (sym h))) a.first;
    }

    -- the links of another queue, where its head and last stay
    pub linked_elsewhere : (heads lasts next new_heads new_lasts : List ℕ) (p : ℕ) → p ≢ queue chart x
        → IsQueue (length chart.events) next (get_or heads p 0) (get_or lasts p 0) (state chart p past)
        → get_or new_heads p 0 ≡ get_or heads p 0 → get_or new_lasts p 0 ≡ get_or lasts p 0
        → IsQueue (length chart.events) next (get_or new_heads p 0) (get_or new_lasts p 0) (state chart p (past ++ x ∷ []))
    linked_elsewhere heads lasts next new_heads new_lasts p other linked same_head same_last =
        rw (same_head, same_last, elsewhere p (λ h. other (sym h))) linked
