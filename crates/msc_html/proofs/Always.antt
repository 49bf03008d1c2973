-- What is always reversed lacks what comes in the other order.
use Rattle.std.proofs.Common.{◌≡◌, ℕ, true, inl, inr, sym, subst}
use Rattle.msc_chart.specs.Charts.{partner, is_input}
use Rattle.msc_chart.specs.Orders.{WiredChart, Enforced, IsRace, IsWired}
use Rattle.msc_chart.specs.Orders.Enforced.{joined}
use Rattle.msc_chart.proofs.Drawn.{not_both, partner_of_input}
use Rattle.msc_chart.proofs.ListLemmas.{by_test}
use Rattle.msc_order.specs.Caused.{Caused}
use Rattle.msc_order.proofs.Once.{caused_enforced, enters, once}
use Rattle.msc_reason.specs.declared.cause.Cause.{Cause}
use Rattle.msc_reason.specs.Causes.{needed, share_queue, IsCauseOf}
use Rattle.msc_reason.proofs.OnePair.{needed_itself, needed_output, race_input, sent_before, share_parts}

module _ (chart : WiredChart) (is_wired : IsWired chart) where
  -- an input is not the output of another one
  no_output : (x y : ℕ) → is_input chart.events x ≡ true → is_input chart.events y ≡ true
      → x ≡ partner chart.events y → ⊥
  no_output x y ix iy same =
      not_both chart.events (partner chart.events y) (partner_of_input chart.events is_wired.matched y iy)
      (subst (λ (z : ℕ). is_input chart.events z ≡ true) same ix)

  -- what is caused before an input and is an input is caused before the output of it
  into_output : (x y : ℕ) → is_input chart.events x ≡ true → is_input chart.events y ≡ true
      → Caused chart.events x y → Enforced chart x (partner chart.events y)
  into_output x y ix iy h = elim (enters chart is_wired x y h iy) [
    | inl same ↦ absurd (no_output x y ix iy same)
    | inr more ↦ caused_enforced chart x (partner chart.events y) more
  ]

  -- where an input is enforced before an input of its queue, its output is before the output of
  -- that
  outputs_too : (f e : ℕ) → is_input chart.events f ≡ true → is_input chart.events e ≡ true
      → Enforced chart f e → Enforced chart (partner chart.events f) (partner chart.events e)
  outputs_too f e input_f input_e h =
      let first = sent_before chart is_wired f input_f in
      elim (once chart is_wired f e h) [
        | inl c ↦ joined first (into_output f e input_f input_e c)
        | inr way ↦
            let u = way.0 in
            let outputs = caused_enforced chart (partner chart.events f) (partner chart.events u) way.1.outputs in
            elim way.2 [
              | inl same ↦ subst (λ (z : ℕ). Enforced chart (partner chart.events f) (partner chart.events z)) same outputs
              | inr more ↦
                  joined outputs (joined (sent_before chart is_wired u way.1.second)
                  (into_output u e way.1.second input_e more))
            ]
      ]

  -- what a race lacks that is always reversed is enforced in the other order
  pub lacks_for_good : (e f : ℕ) (cause : Cause) → IsRace chart e f → IsCauseOf chart e f cause
      → Enforced chart f e → Enforced chart cause.output cause.needed
  lacks_for_good e f cause race is h =
      let input_f = race_input chart e f race in
      let all : Enforced chart (partner chart.events f) (needed chart e f) =
      by_test (share_queue chart e f)
      (λ share.
      let parts = share_parts chart e f share in
      subst (λ (z : ℕ). Enforced chart (partner chart.events f) z) (sym (needed_output chart e f share))
      (outputs_too f e input_f parts.0 h))
      (λ apart. subst (λ (z : ℕ). Enforced chart (partner chart.events f) z)
      (sym (needed_itself chart e f apart)) (joined (sent_before chart is_wired f input_f) h)) in
      subst (λ (z : ℕ). Enforced chart z cause.needed) (sym is.second)
      (subst (λ (z : ℕ). Enforced chart (partner chart.events f) z) (sym is.first) all)
