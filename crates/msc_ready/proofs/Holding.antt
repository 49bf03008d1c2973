-- What is held of a chart with ready instances: its order, and its blocked pairs.
use Rattle.std.proofs.Common.{◌≡◌, ℕ, ◌<◌, Bool, true, false, not, ◌↔◌, inl, inr, List, length, eqb, refl, sym, ap, ◌∙◌}
use Rattle.std.proofs.lemmas.Bool.{eqb-true, eq-eqb, and_parts, and_from, not-true, not_from_false, false_from_ne_true}
use Rattle.msc_chart.specs.declared.event.ChartEvent.{ChartEvent}
use Rattle.msc_chart.specs.Charts.{line, partner, is_input, is_controlled, before}
use Rattle.msc_chart.specs.Orders.{WiredChart, IsWired, queue, IsVisualOrder}
use Rattle.msc_order.specs.Tables.{Table, orders}
use Rattle.msc_ready.specs.BlockedPairs.{IsBlockedPair, is_blocked_pair, is_awaited, is_lined}
use Rattle.msc_ready.proofs.Runs.Fewer.{outputs_told}
use Rattle.msc_ready.proofs.Runs.Keeping.{HaveOneLine}
use Rattle.msc_ready.proofs.Shared.{clash, controlled_or_input, controlled_no_input, output_below, partner_of_input}

-- two tests that pass together are equal
pub same_test : (a b : Bool) → (a ≡ true) ↔ (b ≡ true) → a ≡ b
same_test true b h = sym (h.0 refl)
same_test false b h = sym (false_from_ne_true b (λ k. clash (h.1 k) refl))

-- an event of the chart that is not controlled is an input
pub not_controlled : (events : List ChartEvent) (e : ℕ) → e < length events → not (is_controlled events e) ≡ is_input events e
not_controlled events e below =
    elim (controlled_or_input events e below) [
      | inl c ↦ rw c (sym (false_from_ne_true _ (λ i. controlled_no_input events e c i)))
      | inr i ↦ rw (false_from_ne_true (is_controlled events e) (λ c. controlled_no_input events e c i)) (sym i)
    ]

module _ (chart : WiredChart) (ready : ℕ → Bool) where
  -- the test for a pair that is drawn in the order is that for the line
  pub awaited_when : (e f : ℕ) (b : Bool) → before chart.events e f ≡ true → b ≡ ready (line chart.events f)
      → b ≡ is_awaited chart ready e f
  unfolding is_awaited
  awaited_when e f b drawn same = rw drawn same

  -- a pair that is not drawn in the order fails
  pub awaited_not : (e f : ℕ) (b : Bool) → b ≡ false → (before chart.events e f ≡ true → b ≡ true)
      → b ≡ is_awaited chart ready e f
  unfolding is_awaited
  awaited_not e f b fails h = fails ∙ sym (false_from_ne_true _ (λ both. clash (h (and_parts _ _ both).0) fails))

  -- what a drawn pair on a ready line is by the test
  pub awaited_parts : (e f : ℕ) → is_awaited chart ready e f ≡ true
      → (before chart.events e f ≡ true) × (ready (line chart.events f) ≡ true)
  unfolding is_awaited
  awaited_parts e f h = let both = and_parts _ _ h in (both.0, both.1)

  -- where one part of the test for two such inputs fails, it fails
  pub lined_not : (e f : ℕ) → (is_lined chart ready e f ≡ true → ⊥) → false ≡ is_lined chart ready e f
  lined_not e f h = sym (false_from_ne_true _ h)

  -- where all parts but the last pass, it is the last
  pub lined_when : (e f : ℕ) (b : Bool) → is_awaited chart ready e f ≡ true → is_input chart.events e ≡ true
      → is_input chart.events f ≡ true → b ≡ eqb (queue chart e) (queue chart f) → b ≡ is_lined chart ready e f
  unfolding is_lined
  lined_when e f b awaited ie if_ last = rw (awaited, ie, if_) last

  -- what is known of two such inputs
  pub lined_parts : (e f : ℕ) → is_lined chart ready e f ≡ true
      → (is_awaited chart ready e f ≡ true) × (is_input chart.events e ≡ true)
      × (is_input chart.events f ≡ true) × (queue chart e ≡ queue chart f)
  unfolding is_lined
  lined_parts e f h =
      let both = and_parts _ _ h in
      let first = and_parts _ _ both.0 in
      let inputs = and_parts _ _ first.1 in
      (first.0, inputs.0, inputs.1, eqb-true _ _ both.1)

  -- and what makes a pair two such inputs
  pub lined_from : (e f : ℕ) → before chart.events e f ≡ true → ready (line chart.events f) ≡ true → is_input chart.events e ≡ true
      → is_input chart.events f ≡ true → queue chart e ≡ queue chart f → is_lined chart ready e f ≡ true
  unfolding is_lined is_awaited
  lined_from e f b set ie if_ same = and_from _ _ (and_from _ _ (and_from _ _ b set) (and_from _ _ ie if_)) (eq-eqb _ _ same)

  module _ (order : Table) where
    -- a blocked pair is of two such inputs
    pub blocked_pair_lined : (e f : ℕ) → is_blocked_pair chart ready order e f ≡ true → is_lined chart ready e f ≡ true
    unfolding is_blocked_pair
    blocked_pair_lined e f h = (and_parts _ _ h).0

    -- where they are no such inputs, the test fails
    pub blocked_pair_not : (e f : ℕ) → is_lined chart ready e f ≡ false → false ≡ is_blocked_pair chart ready order e f
    unfolding is_blocked_pair
    blocked_pair_not e f out = sym (rw out refl)

    -- and where they are, it is the test for their outputs
    pub blocked_pair_when : (e f : ℕ) (b : Bool) → is_lined chart ready e f ≡ true
        → b ≡ orders order (partner chart.events e) (partner chart.events f) → not b ≡ is_blocked_pair chart ready order e f
    unfolding is_blocked_pair
    blocked_pair_when e f b lined same = rw lined (ap not same)

    -- the test for blocked pairs is exact
    pub blocked_pair_exact : IsWired chart → HaveOneLine chart → IsVisualOrder chart.events (orders order) → (e f : ℕ)
        → (is_blocked_pair chart ready order e f ≡ true) ↔ IsBlockedPair chart ready e f
    unfolding is_blocked_pair
    blocked_pair_exact is_wired lines told e f = (
      λ h.
          let both = and_parts _ _ h in
          let parts = lined_parts e f both.0 in
          let drawn = awaited_parts e f parts.0 in
          record {
            drawn = drawn.0;
            inputs = (parts.1, parts.2);
            one_queue = parts.3;
            line = drawn.1;
            free = λ k.
                let e_out = partner_of_input chart.events is_wired.matched e parts.1 in
                let f_out = partner_of_input chart.events is_wired.matched f parts.2 in
                clash (told.complete _ _ ((outputs_told chart ready is_wired lines _ _ e_out f_out).0 k)) (not-true _ both.1);
          },
      λ s.
          let e_out = partner_of_input chart.events is_wired.matched e s.inputs.0 in
          let f_out = partner_of_input chart.events is_wired.matched f s.inputs.1 in
          let apart = false_from_ne_true _ (λ k. s.free ((outputs_told chart ready is_wired lines _ _ e_out f_out).1
          (told.holds _ _ (output_below chart.events _ e_out) (output_below chart.events _ f_out) k))) in
          and_from _ _ (lined_from e f s.drawn s.line s.inputs.0 s.inputs.1 s.one_queue) (not_from_false _ apart),
    )
