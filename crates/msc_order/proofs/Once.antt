-- The enforced order needs the rule of queues once, after the others are closed.
use Rattle.std.proofs.Common.{◌≡◌, ℕ, true, ◌⊎◌, inl, inr, refl, sym, ◌∙◌, subst}
use Rattle.msc_chart.specs.Charts.{partner, is_input}
use Rattle.msc_chart.specs.Orders.{WiredChart, queue, IsWired, Enforced}
use Rattle.msc_chart.specs.Orders.Enforced.{drawn, sent, joined, queued}
use Rattle.msc_chart.proofs.Drawn.{output_parts, input_parts, not_both, controlled_no_input, partner_of_output, partner_of_input}
use Rattle.msc_order.specs.Caused.{Caused, InQueueOrder, IsFollowedBy}
use Rattle.msc_order.specs.Caused.Led.{led, carried, chained}

-- what is caused is enforced
pub caused_enforced : (chart : WiredChart) (x y : ℕ) → Caused chart.events x y → Enforced chart x y
caused_enforced chart x y (led b o) = drawn b o
caused_enforced chart x y (carried o p) = sent o p
caused_enforced chart x y (chained {y = m} h k) = joined (caused_enforced chart x m h) (caused_enforced chart m y k)

-- inputs in queue order are enforced in that order
pub queue_enforced : (chart : WiredChart) → IsWired chart → (r u : ℕ) → InQueueOrder chart r u → Enforced chart r u
queue_enforced chart wired r u h =
    let r_below = (input_parts chart.events r h.first).0 in
    let u_below = (input_parts chart.events u h.second).0 in
    let queues : queue chart (partner chart.events r) ≡ queue chart (partner chart.events u) = wired.one_queue r r_below ∙ h.one_queue ∙ sym (wired.one_queue u u_below) in
    queued (partner_of_input chart.events wired.matched r h.first) (partner_of_input chart.events wired.matched u h.second) queues (caused_enforced chart _ _ h.outputs) (wired.matched.to_and_fro r r_below) (wired.matched.to_and_fro u u_below)

-- an input is entered only from its own output
pub enters : (chart : WiredChart) → IsWired chart → (x r : ℕ) → Caused chart.events x r → is_input chart.events r ≡ true → (x ≡ partner chart.events r) ⊎ Caused chart.events x (partner chart.events r)
enters chart wired x r (led b o) input = absurd (controlled_no_input chart.events r o input)
enters chart wired x r (carried o p) input = inl (sym (subst (λ (z : ℕ). partner chart.events z ≡ x) p (wired.matched.to_and_fro x ((output_parts chart.events x o).0))))
enters chart wired x r (chained {y = m} h k) input =
    elim (enters chart wired m r k input) [
      | inl same ↦ inr (subst (λ (z : ℕ). Caused chart.events x z) same h)
      | inr more ↦ inr (chained h more)
    ]

-- what is caused before the first of two inputs in queue order is caused before the second
led_on : (chart : WiredChart) → IsWired chart → (x r u : ℕ) → Caused chart.events x r → InQueueOrder chart r u → Caused chart.events x u
led_on chart wired x r u h q =
    let last : Caused chart.events (partner chart.events u) u = carried (partner_of_input chart.events wired.matched u q.second) (wired.matched.to_and_fro u ((input_parts chart.events u q.second).0)) in
    elim (enters chart wired x r h q.first) [
      | inl same ↦ subst (λ (z : ℕ). Caused chart.events z u) (sym same) (chained q.outputs last)
      | inr more ↦ chained more (chained q.outputs last)
    ]

-- what is caused before u is caused before what follows u
caused_follows : (chart : WiredChart) (x u y : ℕ) → Caused chart.events x u → IsFollowedBy chart.events u y → Caused chart.events x y
caused_follows chart x u y h (inl same) = subst (λ (z : ℕ). Caused chart.events x z) same h
caused_follows chart x u y h (inr more) = chained h more

-- caused, or caused after an input that follows in queue order
abbrev pub UsesOneQueue : WiredChart → ℕ → ℕ → Type 0
UsesOneQueue chart x y = Caused chart.events x y ⊎ ((u : ℕ) × InQueueOrder chart x u × IsFollowedBy chart.events u y)

-- the order of the inputs of a queue is transitive, as that of their outputs
queue_trans : (chart : WiredChart) (x m v : ℕ) → InQueueOrder chart x m → InQueueOrder chart m v → InQueueOrder chart x v
queue_trans chart x m v h k = record { first = h.first; second = k.second; one_queue = h.one_queue ∙ k.one_queue; outputs = chained h.outputs k.outputs }

-- two pairs of the form join to one: the second cannot begin at an input that the caused order leads into
once_joined : (chart : WiredChart) → IsWired chart → (x m y : ℕ) → UsesOneQueue chart x m → UsesOneQueue chart m y → UsesOneQueue chart x y
once_joined chart wired x m y (inl h) (inl k) = inl (chained h k)
once_joined chart wired x m y (inl h) (inr k) = inl (caused_follows chart x k.0 y (led_on chart wired x m k.0 h k.1) k.2)
once_joined chart wired x m y (inr h) (inl k) =
    elim h.2 [
      | inl same ↦ inr (h.0, h.1, inr (subst (λ (z : ℕ). Caused chart.events z y) (sym same) k))
      | inr more ↦ inr (h.0, h.1, inr (chained more k))
    ]
once_joined chart wired x m y (inr h) (inr k) =
    elim h.2 [
      | inl same ↦ inr (k.0, queue_trans chart x m k.0 (subst (λ (z : ℕ). InQueueOrder chart x z) same h.1) k.1, k.2)
      | inr more ↦ inr (h.0, h.1, inr (caused_follows chart h.0 k.0 y (led_on chart wired h.0 m k.0 more k.1) k.2))
    ]

-- The enforced order is the caused order, the inputs in queue order, and what is caused after the second of these.
pub once : (chart : WiredChart) → IsWired chart → (x y : ℕ) → Enforced chart x y → UsesOneQueue chart x y
once chart wired x y (drawn b o) = inl (led b o)
once chart wired x y (sent o p) = inl (carried o p)
once chart wired x y (joined {y = m} h k) = once_joined chart wired x m y (once chart wired x m h) (once chart wired m y k)
once chart wired x y (queued {s = s} {t = t} os ot same h p q) =
    elim (once chart wired s t h) [
      | inl c ↦
          let s_below = (output_parts chart.events s os).0 in
          let t_below = (output_parts chart.events t ot).0 in
          let back_s : partner chart.events x ≡ s = subst (λ (z : ℕ). partner chart.events z ≡ s) p (wired.matched.to_and_fro s s_below) in
          let back_t : partner chart.events y ≡ t = subst (λ (z : ℕ). partner chart.events z ≡ t) q (wired.matched.to_and_fro t t_below) in
          let in_x : is_input chart.events x ≡ true = subst (λ (z : ℕ). is_input chart.events z ≡ true) p (partner_of_output chart.events wired.matched s os) in
          let in_y : is_input chart.events y ≡ true = subst (λ (z : ℕ). is_input chart.events z ≡ true) q (partner_of_output chart.events wired.matched t ot) in
          let queue_x : queue chart x ≡ queue chart s = subst (λ (z : ℕ). queue chart z ≡ queue chart s) p (wired.one_queue s s_below) in
          let queue_y : queue chart y ≡ queue chart t = subst (λ (z : ℕ). queue chart z ≡ queue chart t) q (wired.one_queue t t_below) in
          inr (y, record { first = in_x; second = in_y; one_queue = queue_x ∙ same ∙ sym queue_y; outputs = rw (back_s, back_t) c }, inl refl)
      | inr more ↦ absurd (not_both chart.events s os more.1.first)
    ]
