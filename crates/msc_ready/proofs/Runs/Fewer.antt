-- With fewer lines ready, what lines and messages order before an event stays, but before the
-- inputs of the other lines. So the ready order can be told by the visual order.
use Rattle.std.proofs.Common.{◌≡◌, ℕ, Bool, true, false, ◌⊎◌, ◌↔◌, inl, inr, List, arith, refl, sym, ◌∙◌, subst}
use Rattle.msc_chart.specs.declared.event.ChartEvent.{ChartEvent}
use Rattle.msc_chart.specs.Charts.{line, partner, is_output, is_input, before, Visual}
use Rattle.msc_chart.specs.Orders.{WiredChart, IsWired}
use Rattle.msc_chart.specs.Precedence.{all_ready}
use Rattle.msc_chart.specs.Precedence.Precedes.{drawn, awaited, sent, joined, queued}
use Rattle.msc_chart.proofs.Drawn.{before_from}
use Rattle.msc_chart.proofs.Precedence.{all_ready_is_visual}
use Rattle.msc_ready.specs.Plain.{AreMates, GoesOver, IsPlainUpTo, Plain}
use Rattle.msc_ready.specs.Readiness.{ReadyOrder}
use Rattle.msc_ready.specs.BlockedPairs.{IsBlockedPair}
use Rattle.msc_ready.proofs.Shared.{by_test, clash, before_parts, input_below, not_both, partner_of_input}
use Rattle.msc_ready.proofs.Runs.Keeping.{HaveOneLine}
use Rattle.msc_ready.proofs.Runs.Acyclic.{into_loose, once, outputs_plain, plain_into, plain_visual, then_up, up_then}

-- the drawn order is transitive
before_trans : (events : List ChartEvent) (x y z : ℕ) → before events x y ≡ true → before events y z ≡ true → before events x z ≡ true
before_trans events x y z xy yz =
    let p = before_parts events x y xy in
    let q = before_parts events y z yz in
    before_from events x z p.0 q.1 (p.2 ∙ q.2) (let low = p.3 in let high = q.3 in omega (arith, low, high))

module _ (chart : WiredChart) (more ready : ℕ → Bool) where
  -- x is before y with these lines ready; or y is an input of a line that is not, and x is, or is
  -- before, something that is drawn before y
  abbrev Near : ℕ → ℕ → Type 0
  Near x y =
      Plain chart ready x y
      ⊎ ((w : ℕ) × IsPlainUpTo chart ready x w × (before chart.events w y ≡ true)
      × (is_input chart.events y ≡ true) × (ready (line chart.events y) ≡ false))

  -- and if x is such an input, all that is drawn before it is near too
  abbrev Both : ℕ → ℕ → Type 0
  Both x y =
      Near x y
      × (is_input chart.events x ≡ true → ready (line chart.events x) ≡ false → (w : ℕ) → before chart.events w x ≡ true → Near w y)

  -- from x up to w, and near y from there
  up_near : (x w y : ℕ) → IsPlainUpTo chart ready x w → Near w y → Near x y
  up_near x w y up near =
      elim up [
        | inl same ↦ subst (λ (z : ℕ). Near z y) (sym same) near
        | inr h ↦ elim near [
          | inl k ↦ inl (joined h k)
          | inr k ↦ inr (k.0, inr (then_up h k.1), k.2, k.3, k.4)
        ]
      ]

  -- what follows an event that is near
  then_both : (x m y : ℕ) → Near x m → Both m y → Near x y
  then_both x m y near both =
      elim near [
        | inl h ↦ up_near x m y (inr h) both.0
        | inr h ↦ up_near x h.0 y h.1 (both.1 h.3 h.4 h.0 h.2)
      ]

  -- so what is before an event with more lines ready is near it with fewer
  near_of_more : (x y : ℕ) → Plain chart more x y → Both x y
  near_of_more x y (drawn b o) =
      (inl (drawn b o), λ i l w c. inl (drawn (before_trans chart.events w x y c b) o))
  near_of_more x y (awaited b i l) =
      by_test (ready (line chart.events y))
      (λ set. (inl (awaited b i set), λ j k w c. inl (awaited (before_trans chart.events w x y c b) i set)))
      (λ loose. (
        inr (x, inl refl, b, i, loose),
        λ j k w c. inr (w, inl refl, before_trans chart.events w x y c b, i, loose),
      ))
  near_of_more x y (sent o p) = (inl (sent o p), λ i l w c. absurd (not_both chart.events x o i))
  near_of_more x y (joined {y = m} h k) =
      let first = near_of_more x m h in
      let second = near_of_more m y k in
      (then_both x m y first.0 second, λ i l w c. then_both w m y (first.1 i l w c) second)
  near_of_more x y (queued rule os ot same h p q l) = clash rule refl

  -- before any other event it stays as it is
  pub plain_of_more : (x y : ℕ) → Plain chart more x y → (is_input chart.events y ≡ true → ready (line chart.events y) ≡ true)
      → Plain chart ready x y
  plain_of_more x y h tight =
      elim (near_of_more x y h).0 [ inl k ↦ k | inr k ↦ clash (tight k.3) k.4 ]

module _ (chart : WiredChart) (ready : ℕ → Bool) where
  -- before an event that is no input of another line it is the visual order
  pub plain_told : (x y : ℕ) → (is_input chart.events y ≡ true → ready (line chart.events y) ≡ true)
      → Visual chart.events x y → Plain chart ready x y
  plain_told x y tight h = plain_of_more chart all_ready ready x y ((all_ready_is_visual chart false x y).1 h) tight

  -- it is part of the ready order
  pub ready_of_plain : (x y : ℕ) → Plain chart ready x y → ReadyOrder chart ready x y
  ready_of_plain x y (drawn b o) = drawn b o
  ready_of_plain x y (awaited b i l) = awaited b i l
  ready_of_plain x y (sent o p) = sent o p
  ready_of_plain x y (joined {y = m} h k) = joined (ready_of_plain x m h) (ready_of_plain m y k)
  ready_of_plain x y (queued rule os ot same h p q l) = clash rule refl

  module _ (is_wired : IsWired chart) where
    -- before an input of another line it is what is before its output, and that itself
    pub loose_told : (x y : ℕ) → is_input chart.events y ≡ true → ready (line chart.events y) ≡ false
        → Plain chart ready x y ↔ ((x ≡ partner chart.events y) ⊎ Visual chart.events x (partner chart.events y))
    loose_told x y input loose =
        let o = partner_of_input chart.events is_wired.matched y input in
        let into = plain_into chart is_wired ready y input in (
          λ h. elim (into_loose chart is_wired ready x y h input loose) [
            | inl same ↦ inl same
            | inr k ↦ inr (plain_visual chart is_wired ready x (partner chart.events y) k)
          ],
          λ h. elim h [
            | inl same ↦ subst (λ (z : ℕ). Plain chart ready z y) (sym same) into
            | inr k ↦ joined (plain_told x (partner chart.events y) (λ i. absurd (not_both chart.events (partner chart.events y) o i)) k) into
          ],
        )

    -- before any other event it is the visual order
    pub tight_told : (x y : ℕ) → (is_input chart.events y ≡ true → ready (line chart.events y) ≡ true)
        → Plain chart ready x y ↔ Visual chart.events x y
    tight_told x y tight = (plain_visual chart is_wired ready x y, plain_told x y tight)

    -- between outputs the ready order is the visual order
    pub outputs_told : HaveOneLine chart → (s t : ℕ) → is_output chart.events s ≡ true → is_output chart.events t ≡ true
        → ReadyOrder chart ready s t ↔ Visual chart.events s t
    outputs_told lines s t os ot = (
      λ h. plain_visual chart is_wired ready s t (elim (once chart is_wired ready lines s t h) [
        | inl plain ↦ plain
        | inr over ↦ outputs_plain chart is_wired ready s t os ot over
      ]),
      λ h. ready_of_plain s t (plain_told s t (λ i. absurd (not_both chart.events t ot i)) h),
    )

    -- the ready order is what lines and messages give, and what goes over one use of the rule of
    -- queues
    pub ready_told : HaveOneLine chart → (x y : ℕ)
        → ReadyOrder chart ready x y ↔ (Plain chart ready x y ⊎ GoesOver chart ready x y)
    ready_told lines x y = (
      λ h. elim (once chart is_wired ready lines x y h) [
        | inl plain ↦ inl plain
        | inr over ↦ elim over.to [
          | inl same ↦ inr (over.u, subst (λ (z : ℕ). AreMates chart ready z over.u) (sym same) over.mates, over.from)
          | inr k ↦
              let up = into_loose chart is_wired ready x over.r k over.mates.first over.loose in
              let on = joined (up_then up over.mates.outputs) (plain_into chart is_wired ready over.u over.mates.second) in
              inl (then_up on over.from)
        ]
      ],
      λ h. elim h [
        | inl plain ↦ ready_of_plain x y plain
        | inr over ↦
            let m = over.1 in
            let x_out = partner_of_input chart.events is_wired.matched x m.first in
            let u_out = partner_of_input chart.events is_wired.matched over.0 m.second in
            let x_back = is_wired.matched.to_and_fro x (input_below chart.events x m.first) in
            let u_back = is_wired.matched.to_and_fro over.0 (input_below chart.events over.0 m.second) in
            let queues = is_wired.one_queue x (input_below chart.events x m.first) ∙ m.one_queue
            ∙ sym (is_wired.one_queue over.0 (input_below chart.events over.0 m.second)) in
            let link = queued refl x_out u_out queues (ready_of_plain _ _ m.outputs) x_back u_back m.loose in
            elim over.2 [
              | inl same ↦ subst (λ (z : ℕ). ReadyOrder chart ready x z) same link
              | inr k ↦ joined link (ready_of_plain over.0 y k)
            ]
      ],
    )

-- with more lines ready each blocked pair stays a blocked pair
pub blocked_pair_stays : (chart : WiredChart) → IsWired chart → HaveOneLine chart → (ready more : ℕ → Bool)
    → ((i : ℕ) → ready i ≡ true → more i ≡ true) → (e f : ℕ) → IsBlockedPair chart ready e f → IsBlockedPair chart more e f
blocked_pair_stays chart is_wired lines ready more wider e f blocked_pair =
    let e_out = partner_of_input chart.events is_wired.matched e blocked_pair.inputs.0 in
    let f_out = partner_of_input chart.events is_wired.matched f blocked_pair.inputs.1 in
    record {
      drawn = blocked_pair.drawn;
      inputs = blocked_pair.inputs;
      one_queue = blocked_pair.one_queue;
      line = wider (line chart.events f) blocked_pair.line;
      free = λ h.
          let seen_so = (outputs_told chart more is_wired lines _ _ e_out f_out).0 h in
          blocked_pair.free ((outputs_told chart ready is_wired lines _ _ e_out f_out).1 seen_so);
    }
