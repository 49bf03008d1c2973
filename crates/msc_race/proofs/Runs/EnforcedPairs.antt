-- What the order of events relates, and the enforced order.
use Rattle.std.proofs.Common.{◌≡◌, ℕ, ◌<◌, Bool, true, ◌⊎◌, inl, inr, length, sym, ◌∙◌, subst}
use Rattle.msc_chart.specs.Charts.{partner, is_input}
use Rattle.msc_chart.specs.Orders.{WiredChart, IsWired, queue, Enforced}
use Rattle.msc_chart.specs.Orders.Enforced.{drawn, sent, joined, queued}
use Rattle.msc_chart.specs.Precedence.{Precedes, none_ready}
use Rattle.msc_chart.proofs.Precedence.{none_ready_is_enforced}
use Rattle.msc_race.proofs.Runs.EventLemmas.{output_below, controlled_no_input, before_parts, partner_of_output}

module _ (chart : WiredChart) (is_wired : IsWired chart) where
  -- the order relates events of the chart, whichever lines are ready
  pub precedes_below : (ready : ℕ → Bool) (fifo : Bool) (x y : ℕ) → Precedes chart ready fifo x y
      → (x < length chart.events) × (y < length chart.events)
  precedes_below ready fifo x y (Precedes.drawn b o) = let p = before_parts chart.events x y b in (p.0, p.1)
  precedes_below ready fifo x y (Precedes.awaited b i l) = let p = before_parts chart.events x y b in (p.0, p.1)
  precedes_below ready fifo x y (Precedes.sent o p) =
      let below = output_below chart.events x o in
      (below, subst (λ (z : ℕ). z < length chart.events) p (is_wired.matched.in_range x below))
  precedes_below ready fifo x y (Precedes.joined {y = m} h k) = ((precedes_below ready fifo x m h).0, (precedes_below ready fifo m y k).1)
  precedes_below ready fifo x y (Precedes.queued {s = s} {t = t} rule os ot same h p q l) = (
    subst (λ (z : ℕ). z < length chart.events) p (is_wired.matched.in_range s (output_below chart.events s os)),
    subst (λ (z : ℕ). z < length chart.events) q (is_wired.matched.in_range t (output_below chart.events t ot)),
  )

  -- so does the enforced order
  pub enforced_below : (x y : ℕ) → Enforced chart x y
      → (x < length chart.events) × (y < length chart.events)
  enforced_below x y h = precedes_below none_ready true x y ((none_ready_is_enforced chart x y).1 h)

  -- x is the output of the input y, or is enforced before that output, or is an input of y's queue
  -- whose output is enforced before y's output
  abbrev IntoInput : ℕ → ℕ → Type 0
  IntoInput x y =
      (x ≡ partner chart.events y)
      ⊎ (Enforced chart x (partner chart.events y)
      ⊎ ((is_input chart.events x ≡ true) × (queue chart x ≡ queue chart y)
      × Enforced chart (partner chart.events x) (partner chart.events y)))

  -- so it is for whatever is enforced before an input y
  pub into_input : (x y : ℕ) → Enforced chart x y → is_input chart.events y ≡ true → IntoInput x y
  into_input x y (drawn b o) i = absurd (controlled_no_input chart.events y o i)
  into_input x y (sent o p) i =
      inl (rw (← p) (sym (is_wired.matched.to_and_fro x (output_below chart.events x o))))
  into_input x y (queued {s = s} {t = t} os ot same h p q) i =
      let s_below = output_below chart.events s os in
      let t_below = output_below chart.events t ot in
      let to_s = is_wired.matched.to_and_fro s s_below in
      let to_t = is_wired.matched.to_and_fro t t_below in
      let s_queue = is_wired.one_queue s s_below in
      let t_queue = is_wired.one_queue t t_below in
      let input : is_input chart.events x ≡ true = rw (← p) (partner_of_output chart.events is_wired.matched s os) in
      inr (inr (input, rw (← p, ← q, s_queue, t_queue) same, rw (← p, ← q, to_s, to_t) h))
  into_input x y (joined {y = m} h k) i =
      elim (into_input m y k i) [
        | inl same ↦ inr (inl (subst (λ (z : ℕ). Enforced chart x z) same h))
        | inr other ↦ elim other [
          | inl late ↦ inr (inl (joined h late))
          | inr mate ↦ elim (into_input x m h mate.0) [
            | inl same ↦ inr (inl (rw same mate.2))
            | inr further ↦ elim further [
              | inl late ↦ inr (inl (joined late mate.2))
              | inr earlier ↦ inr (inr (earlier.0, earlier.1 ∙ mate.1, joined earlier.2 mate.2))
            ]
          ]
        ]
      ]
