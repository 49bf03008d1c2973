-- The ready order has no cycle: of a pair either lines and messages are enough, or it leads over one
-- use of the rule of queues, between two inputs whose outputs lines and messages order.
use Rattle.std.proofs.Common.{◌≡◌, ℕ, ◌<◌, Bool, true, false, ◌⊎◌, inl, inr, length, refl, sym, ◌∙◌, subst, ap}
use Rattle.msc_chart.specs.Charts.{line, partner, is_output, is_input, IsAcyclic, Visual}
use Rattle.msc_chart.specs.Charts.Visual.{seen, passed, linked}
use Rattle.msc_chart.specs.Orders.{WiredChart, IsWired, queue}
use Rattle.msc_chart.specs.Precedence.{Precedes}
use Rattle.msc_chart.specs.Precedence.Precedes.{drawn, awaited, sent, joined, queued}
use Rattle.msc_race.proofs.Runs.EnforcedPairs.{precedes_below}
use Rattle.msc_ready.specs.Plain.{AreMates, Plain}
use Rattle.msc_ready.specs.Readiness.{ReadyOrder}
use Rattle.msc_ready.proofs.Runs.Keeping.{HaveOneLine}
use Rattle.msc_ready.proofs.Shared.{clash, controlled_no_input, input_below, not_both, output_below, partner_of_input, partner_of_output}

module _ {chart : WiredChart} {ready : ℕ → Bool} {fifo : Bool} {x y z : ℕ} where
  -- two steps, of which the second may be none
  pub then_up : Precedes chart ready fifo x y → (y ≡ z) ⊎ Precedes chart ready fifo y z → Precedes chart ready fifo x z
  then_up h up =
      elim up [ inl same ↦ subst (λ (w : ℕ). Precedes chart ready fifo x w) same h | inr k ↦ joined h k ]

  -- or the first
  pub up_then : (x ≡ y) ⊎ Precedes chart ready fifo x y → Precedes chart ready fifo y z → Precedes chart ready fifo x z
  up_then up k =
      elim up [ inl same ↦ subst (λ (w : ℕ). Precedes chart ready fifo w z) (sym same) k | inr h ↦ joined h k ]

  -- or both
  pub join_up : (x ≡ y) ⊎ Precedes chart ready fifo x y → (y ≡ z) ⊎ Precedes chart ready fifo y z → (x ≡ z) ⊎ Precedes chart ready fifo x z
  join_up h up =
      elim h [ inl same ↦ subst (λ (w : ℕ). (w ≡ z) ⊎ Precedes chart ready fifo w z) (sym same) up | inr k ↦ inr (then_up k up) ]

module _ (chart : WiredChart) (is_wired : IsWired chart) (ready : ℕ → Bool) where
  -- what lines and messages order is part of the visual order
  pub plain_visual : (x y : ℕ) → Plain chart ready x y → Visual chart.events x y
  plain_visual x y (drawn h o) = seen h
  plain_visual x y (awaited h i l) = seen h
  plain_visual x y (sent o p) = passed o p
  plain_visual x y (joined {y = m} h k) = linked (plain_visual x m h) (plain_visual m y k)
  plain_visual x y (queued rule os ot same h p q l) = clash rule refl

  -- x is y, or is ordered before it
  abbrev pub UpTo : ℕ → ℕ → Type 0
  UpTo x y = (x ≡ y) ⊎ Plain chart ready x y

  -- what is ordered before an input of a line that is not ready is its output, or is before that
  pub into_loose : (x r : ℕ) → Plain chart ready x r → is_input chart.events r ≡ true
      → ready (line chart.events r) ≡ false → UpTo x (partner chart.events r)
  into_loose x r (drawn h o) i loose = absurd (controlled_no_input chart.events r o i)
  into_loose x r (awaited h j l) i loose = clash l loose
  into_loose x r (sent o p) i loose =
      inl (rw (← p) (sym (is_wired.matched.to_and_fro x (output_below chart.events x o))))
  into_loose x r (joined {y = m} h k) i loose = inr (then_up h (into_loose m r k i loose))
  into_loose x r (queued rule os ot same h p q l) i loose = clash rule refl

  -- over one use of the rule from x to y
  pub record IsOver (x y : ℕ) : Type 0 where
    pub r : ℕ
    pub u : ℕ
    pub mates : AreMates chart ready r u
    pub loose : ready (line chart.events r) ≡ false
    pub to : UpTo x r
    pub from : UpTo u y

  -- an input of a line that is not ready goes after its output
  pub plain_into : (r : ℕ) → is_input chart.events r ≡ true → Plain chart ready (partner chart.events r) r
  plain_into r i =
      sent (partner_of_input chart.events is_wired.matched r i)
      (is_wired.matched.to_and_fro r (input_below chart.events r i))

  -- what is before an output over a use of the rule is plainly so, if it is an output
  pub outputs_plain : (s t : ℕ) → is_output chart.events s ≡ true → is_output chart.events t ≡ true → IsOver s t
      → Plain chart ready s t
  outputs_plain s t os ot h =
      let i = h.mates.first in
      let to_r : Plain chart ready s h.r = elim h.to [
        | inl same ↦ absurd (not_both chart.events s os (subst (λ (z : ℕ). is_input chart.events z ≡ true) (sym same) i))
        | inr k ↦ k
      ] in
      let up = into_loose s h.r to_r i h.loose in
      then_up (joined (up_then up h.mates.outputs) (plain_into h.u h.mates.second)) h.from

  -- from an input of a line that is not ready to another, plainly: over the output of the second
  between_loose : (u r : ℕ) → is_input chart.events u ≡ true → is_input chart.events r ≡ true
      → ready (line chart.events r) ≡ false → Plain chart ready u r → Plain chart ready u (partner chart.events r)
  between_loose u r iu ir loose h =
      elim (into_loose u r h ir loose) [
        | inl same ↦
            let o = partner_of_input chart.events is_wired.matched r ir in
            absurd (not_both chart.events u (subst (λ (z : ℕ). is_output chart.events z ≡ true) (sym same) o) iu)
        | inr k ↦ k
      ]

  -- over two uses of the rule it is over one: either the second begins where the first ends, or what
  -- is between goes over an output
  over_two : (x m y : ℕ) → IsOver x m → IsOver m y → IsOver x y
  over_two x m y a b =
      elim (join_up a.from b.to) [
        | inl same ↦ record {
          r = a.r;
          u = b.u;
          mates = record {
            first = a.mates.first;
            second = b.mates.second;
            one_queue = a.mates.one_queue ∙ ap (λ (z : ℕ). queue chart z) same ∙ b.mates.one_queue;
            loose = b.mates.loose;
            outputs = joined a.mates.outputs
                (subst (λ (z : ℕ). Plain chart ready (partner chart.events z) (partner chart.events b.u)) (sym same) b.mates.outputs);
          };
          loose = a.loose;
          to = a.to;
          from = b.from;
        }
        | inr h ↦
            let early = between_loose a.u b.r a.mates.second b.mates.first b.loose h in
            let late = joined (joined early b.mates.outputs) (plain_into b.u b.mates.second) in
            record { r = a.r; u = a.u; mates = a.mates; loose = a.loose; to = a.to; from = inr (then_up late b.from) }
      ]

  -- each pair of the ready order is plain or over one use of the rule
  pub once : HaveOneLine chart → (x y : ℕ) → ReadyOrder chart ready x y → Plain chart ready x y ⊎ IsOver x y
  once lines x y (drawn h o) = inl (drawn h o)
  once lines x y (awaited h i l) = inl (awaited h i l)
  once lines x y (sent o p) = inl (sent o p)
  once lines x y (queued {s = s} {t = t} rule os ot same h p q loose) =
      let s_below = output_below chart.events s os in
      let t_below = output_below chart.events t ot in
      let x_input : is_input chart.events x ≡ true = rw (← p) (partner_of_output chart.events is_wired.matched s os) in
      let y_input : is_input chart.events y ≡ true = rw (← q) (partner_of_output chart.events is_wired.matched t ot) in
      let x_back : partner chart.events x ≡ s = rw (← p) (is_wired.matched.to_and_fro s s_below) in
      let y_back : partner chart.events y ≡ t = rw (← q) (is_wired.matched.to_and_fro t t_below) in
      let x_queue : queue chart x ≡ queue chart s = rw (← p) (is_wired.one_queue s s_below) in
      let y_queue : queue chart y ≡ queue chart t = rw (← q) (is_wired.one_queue t t_below) in
      let one : line chart.events x ≡ line chart.events y = lines x y x_input y_input (x_queue ∙ same ∙ sym y_queue) in
      let outs : Plain chart ready s t = elim (once lines s t h) [
        | inl plain ↦ plain
        | inr over ↦ outputs_plain s t os ot over
      ] in
      inr (record {
        r = x;
        u = y;
        mates = record {
          first = x_input;
          second = y_input;
          one_queue = x_queue ∙ same ∙ sym y_queue;
          loose = loose;
          outputs = rw (x_back, y_back) outs;
        };
        loose = rw one loose;
        to = inl refl;
        from = inl refl;
      })
  once lines x y (joined {y = m} h k) =
      elim (once lines x m h) [
        | inl a ↦ elim (once lines m y k) [
          | inl b ↦ inl (joined a b)
          | inr b ↦ inr (record { r = b.r; u = b.u; mates = b.mates; loose = b.loose; to = inr (then_up a b.to); from = b.from })
        ]
        | inr a ↦ elim (once lines m y k) [
          | inl b ↦ inr (record { r = a.r; u = a.u; mates = a.mates; loose = a.loose; to = a.to; from = inr (up_then a.from b) })
          | inr b ↦ inr (over_two x m y a b)
        ]
      ]

  -- So no event stands before itself: over one use of the rule the outputs would stand in a ring.
  pub ready_acyclic : HaveOneLine chart → IsAcyclic chart.events → (e : ℕ) → ReadyOrder chart ready e e → ⊥
  ready_acyclic lines acyclic e h =
      let no_plain = λ (x : ℕ) (below : x < length chart.events) (k : Plain chart ready x x). acyclic x below (plain_visual x x k) in
      elim (once lines e e h) [
        | inl plain ↦ no_plain e (precedes_below chart is_wired ready true e e h).0 plain
        | inr over ↦
            let s : ℕ = partner chart.events over.r in
            let s_below = is_wired.matched.in_range over.r (input_below chart.events over.r over.mates.first) in
            elim (join_up over.from over.to) [
              | inl same ↦ no_plain s s_below (subst (λ (z : ℕ). Plain chart ready s (partner chart.events z)) same over.mates.outputs)
              | inr k ↦
                  let early = between_loose over.u over.r over.mates.second over.mates.first over.loose k in
                  no_plain s s_below (joined (joined over.mates.outputs (plain_into over.u over.mates.second)) early)
            ]
      ]
