-- The events that are free of an event can go first.
use Rattle.std.proofs.Common.{◌≡◌, ℕ, ◌<◌, Bool, true, inl, inr, length, refl, sym, ap, ◌∙◌, subst}
use Rattle.msc_chart.specs.Charts.{IsAcyclic, partner, is_input}
use Rattle.msc_chart.specs.Orders.{WiredChart, IsWired, queue, Enforced, IsEnforcedOrder}
use Rattle.msc_chart.specs.Orders.Enforced.{drawn, sent, joined, queued}
use Rattle.msc_chart.specs.Precedence.{none_ready}
use Rattle.msc_race.proofs.Shared.{clash}
use Rattle.msc_race.proofs.Runs.EventLemmas.{output_below, before_parts, partner_of_output, partner_of_input}
use Rattle.msc_race.proofs.Runs.EnforcedPairs.{into_input}
use Rattle.msc_race.proofs.Runs.Inside.{is_held, held_parts, passed_on_parts}
use Rattle.msc_race.proofs.Runs.Needed.{needed_cases}
use Rattle.msc_race.proofs.Runs.Progress.{CanGoFirst}
use Rattle.msc_race.proofs.Runs.WholeRuns.{enforced_acyclic}
use Rattle.msc_race.proofs.Runs.FreeEvents.{is_free_of, free_of_test, test_of_free, not_free}

module _ (chart : WiredChart) (is_wired : IsWired chart) (order : ℕ → ℕ → Bool)
    (told : IsEnforcedOrder chart order) (e : ℕ) (below : e < length chart.events) where
  -- Where an output is held, e is an input, and it is in the queue of e: its input is e or after e,
  -- and the output itself is neither.
  pub held_queue : (s : ℕ) → is_held chart (is_free_of chart order e) s ≡ true
      → (is_input chart.events e ≡ true) × (queue chart e ≡ queue chart s)
  held_queue s held =
      let h = held_parts chart (is_free_of chart order e) s held in
      let s_below = output_below chart.events s h.0 in
      let s_free = free_of_test chart order told e s h.1 in
      let back = is_wired.matched.to_and_fro s s_below in
      let queues = is_wired.one_queue s s_below in
      let input = partner_of_output chart.events is_wired.matched s h.0 in
      elim (not_free chart order told e below (partner chart.events s) (is_wired.matched.in_range s s_below) h.2) [
        | inl same ↦ (subst (λ (x : ℕ). is_input chart.events x ≡ true) same input, ap (λ x. queue chart x) (sym same) ∙ queues)
        | inr after ↦ elim (into_input chart is_wired e (partner chart.events s) after input) [
          | inl same ↦ absurd (s_free.1 (sym (same ∙ back)))
          | inr other ↦ elim other [
            | inl late ↦ absurd (s_free.2 (rw back at late))
            | inr mate ↦ (mate.0, mate.1 ∙ queues)
          ]
        ]
      ]

  -- what is enforced before a free event is free
  free_before : (x y : ℕ) → x < length chart.events → Enforced chart x y
      → is_free_of chart order e y ≡ true → is_free_of chart order e x ≡ true
  free_before x y x_below link y_free =
      let apart = (free_of_test chart order told e y y_free).2 in
      test_of_free chart order told e below x x_below
      (λ same. apart (subst (λ (z : ℕ). Enforced chart z y) same link))
      (λ after. apart (joined after link))

  -- So they can go first, in the enforced order. A held output does not stand before an output of its
  -- queue that is passed on: else the input of the second would be after e, by the rule of queues.
  pub free_first : IsAcyclic chart.events
      → CanGoFirst chart (is_free_of chart order e) (Enforced chart)
  free_first acyclic = record {
    base = λ x y h. needed_cases chart none_ready x y h (λ b o. drawn b o) (λ b i l. clash l refl) (λ o p. sent o p);
    trans = λ x y z h k. joined h k;
    irreflexive = λ x x_below h. enforced_acyclic chart is_wired acyclic x h;
    drawn_inside = λ x s b o free. free_before x s (before_parts chart.events x s b).0 (drawn b o) free;
    sent_inside = λ r i free.
        let r_below = (free_of_test chart order told e r free).0 in
        let output = partner_of_input chart.events is_wired.matched r i in
        let link : Enforced chart (partner chart.events r) r = sent output (is_wired.matched.to_and_fro r r_below) in
        free_before (partner chart.events r) r (is_wired.matched.in_range r r_below) link free;
    held_after = λ s t held passed queues link.
        let h = held_parts chart (is_free_of chart order e) s held in
        let p = passed_on_parts chart (is_free_of chart order e) t passed in
        let s_below = output_below chart.events s h.0 in
        let apart = (free_of_test chart order told e (partner chart.events t) p.2).2 in
        let inputs : Enforced chart (partner chart.events s) (partner chart.events t) =
        queued h.0 p.0 queues link refl refl in
        elim (not_free chart order told e below (partner chart.events s) (is_wired.matched.in_range s s_below) h.2) [
          | inl same ↦ apart (subst (λ (z : ℕ). Enforced chart z (partner chart.events t)) same inputs)
          | inr after ↦ apart (joined after inputs)
        ];
    held_together = λ s t held other. sym (held_queue s held).1 ∙ (held_queue t other).1;
  }
