-- A chart without races has no blocked pair.
use Rattle.std.proofs.Common.{◌≡◌, ℕ, ◌<◌, Bool, true, ◌⊎◌, inl, inr, refl, sym, ap, ◌∙◌, subst, arith}
use Rattle.std.proofs.lemmas.Bool.{cases_lt}
use Rattle.msc_chart.specs.Charts.{line, segment, partner, is_output, is_input, before, IsAcyclic}
use Rattle.msc_chart.specs.Orders.{WiredChart, IsWired, queue, Enforced}
use Rattle.msc_chart.specs.Orders.Enforced.{drawn as e_drawn, sent as e_sent, joined as e_joined, queued as e_queued}
use Rattle.msc_race.specs.Laws.{HasNoRace}
use Rattle.msc_race.proofs.Runs.EnforcedPairs.{into_input}
use Rattle.msc_race.proofs.Runs.Tables.{enforced_told}
use Rattle.msc_race.proofs.Runs.WholeRuns.{enforced_acyclic}
use Rattle.msc_chart.proofs.Drawn.{before_from}
use Rattle.msc_ready.specs.Readiness.{ReadyOrder}
use Rattle.msc_chart.specs.Precedence.Precedes.{drawn, awaited, sent, joined, queued}
use Rattle.msc_ready.specs.BlockedPairs.{HasNoBlockedPair}
use Rattle.msc_ready.proofs.Shared.{by_test, clash, before_parts, input_below, not_both, output_below, partner_of_input, partner_of_output}
use Rattle.msc_ready.proofs.Runs.Acyclic.{then_up, up_then}
use Rattle.msc_ready.proofs.Runs.Keeping.{HaveOneLine}

module _ (chart : WiredChart) (is_wired : IsWired chart) (lines : HaveOneLine chart) (acyclic : IsAcyclic chart.events)
    (none : HasNoRace chart) (ready : ℕ → Bool) where
  -- what is drawn in an order is enforced in it
  drawn_enforced : (x y : ℕ) → before chart.events x y ≡ true → Enforced chart x y
  drawn_enforced x y h =
      let below = before_parts chart.events x y h in
      elim (enforced_told chart is_wired x y below.0 below.1) [
        | inl k ↦ k
        | inr apart ↦ absurd (none x y (h, apart))
      ]

  -- r and y are inputs of one segment of a ready line
  record AreLevel (r y : ℕ) : Type 0 where
    pub first : is_input chart.events r ≡ true
    pub second : is_input chart.events y ≡ true
    pub one_line : line chart.events r ≡ line chart.events y
    pub one_segment : segment chart.events r ≡ segment chart.events y
    pub set : ready (line chart.events y) ≡ true

  -- x stands before y in the ready order, or is, or stands before, an input that is level with y
  abbrev Nearly : ℕ → ℕ → Type 0
  Nearly x y =
      ReadyOrder chart ready x y
      ⊎ ((r : ℕ) × ((x ≡ r) ⊎ ReadyOrder chart ready x r) × AreLevel r y)

  -- what is drawn after an event of a segment is drawn after all of it
  drawn_level : (r y z : ℕ) → AreLevel r y → before chart.events y z ≡ true → before chart.events r z ≡ true
  drawn_level r y z h b =
      let parts = before_parts chart.events y z b in
      let same : line chart.events r ≡ line chart.events z = h.one_line ∙ parts.2 in
      let level : segment chart.events r ≡ segment chart.events y = h.one_segment in
      let lower : segment chart.events y < segment chart.events z = parts.3 in
      let rises : segment chart.events r < segment chart.events z = omega arith in
      before_from chart.events r z (input_below chart.events r h.first) parts.1 same rises

  -- what comes after an input comes after each that is level with it
  from_level : (r y z : ℕ) → AreLevel r y → ReadyOrder chart ready y z → ReadyOrder chart ready r z
  from_level r y z h (drawn b o) = drawn (drawn_level r y z h b) o
  from_level r y z h (awaited b i l) = awaited (drawn_level r y z h b) i l
  from_level r y z h (sent o p) = absurd (not_both chart.events y o h.second)
  from_level r y z h (joined {y = m} a b) = joined (from_level r y m h a) b
  from_level r y z h (queued {s = s} {t = t} rule os ot same a p q loose) =
      let y_input : is_input chart.events y ≡ true = h.second in
      let z_input : is_input chart.events z ≡ true = rw (← q) (partner_of_output chart.events is_wired.matched t ot) in
      let y_queue : queue chart y ≡ queue chart s = rw (← p) (is_wired.one_queue s (output_below chart.events s os)) in
      let z_queue : queue chart z ≡ queue chart t = rw (← q) (is_wired.one_queue t (output_below chart.events t ot)) in
      let one : line chart.events y ≡ line chart.events z = lines y z y_input z_input (y_queue ∙ same ∙ sym z_queue) in
      clash (subst (λ (i : ℕ). ready i ≡ true) one h.set) loose

  -- two such steps are one
  both_nearly : (x m y : ℕ) → Nearly x m → Nearly m y → Nearly x y
  both_nearly x m y h k =
      elim h [
        | inl a ↦ elim k [
          | inl b ↦ inl (joined a b)
          | inr b ↦ inr (b.0, inr (then_up a b.1), b.2)
        ]
        | inr a ↦ elim k [
          | inl b ↦ inl (up_then a.1 (from_level a.0 m y a.2 b))
          | inr b ↦ elim b.1 [
            | inl same ↦
                let level : AreLevel a.0 y = record {
                  first = a.2.first;
                  second = b.2.second;
                  one_line = a.2.one_line ∙ ap (line chart.events) same ∙ b.2.one_line;
                  one_segment = a.2.one_segment ∙ ap (segment chart.events) same ∙ b.2.one_segment;
                  set = b.2.set;
                } in
                inr (a.0, a.1, level)
            | inr c ↦ inr (b.0, inr (up_then a.1 (from_level a.0 m b.0 a.2 c)), b.2)
          ]
        ]
      ]

  -- of two inputs of a ready line that are enforced in an order the first is drawn before the
  -- second, or they are level: else they would be enforced the other way round too
  inputs_nearly : (x y : ℕ) → is_input chart.events x ≡ true → is_input chart.events y ≡ true
      → line chart.events x ≡ line chart.events y → ready (line chart.events y) ≡ true → Enforced chart x y → Nearly x y
  inputs_nearly x y ix iy one set h =
      let x_below = input_below chart.events x ix in
      let y_below = input_below chart.events y iy in
      elim (cases_lt (segment chart.events x) (segment chart.events y)) [
        | inl less ↦ inl (awaited (before_from chart.events x y x_below y_below one less) iy set)
        | inr more ↦ elim (cases_lt (segment chart.events y) (segment chart.events x)) [
          | inl less ↦
              let back = drawn_enforced y x (before_from chart.events y x y_below x_below (sym one) less) in
              absurd (enforced_acyclic chart is_wired acyclic x (e_joined h back))
          | inr other ↦
              let level : AreLevel x y = record { first = ix; second = iy; one_line = one; one_segment = omega (arith, more, other); set = set } in
              inr (x, inl refl, level)
        ]
      ]

  -- what is enforced is nearly in the ready order
  nearly : (x y : ℕ) → Enforced chart x y → Nearly x y
  nearly x y (e_drawn b o) = inl (drawn b o)
  nearly x y (e_sent o p) = inl (sent o p)
  nearly x y (e_joined {y = m} h k) = both_nearly x m y (nearly x m h) (nearly m y k)
  nearly x y (e_queued {s = s} {t = t} os ot same h p q) =
      let outs : ReadyOrder chart ready s t = elim (nearly s t h) [
        | inl a ↦ a
        | inr a ↦ absurd (not_both chart.events t ot a.2.second)
      ] in
      let ix : is_input chart.events x ≡ true = rw (← p) (partner_of_output chart.events is_wired.matched s os) in
      let iy : is_input chart.events y ≡ true = rw (← q) (partner_of_output chart.events is_wired.matched t ot) in
      let x_queue : queue chart x ≡ queue chart s = rw (← p) (is_wired.one_queue s (output_below chart.events s os)) in
      let y_queue : queue chart y ≡ queue chart t = rw (← q) (is_wired.one_queue t (output_below chart.events t ot)) in
      by_test (ready (line chart.events y))
      (λ set. inputs_nearly x y ix iy (lines x y ix iy (x_queue ∙ same ∙ sym y_queue)) set (e_queued os ot same h p q))
      (λ loose. inl (queued refl os ot same outs p q loose))

  -- so no blocked pair has its outputs free
  pub pass_has_none : HasNoBlockedPair chart ready
  pass_has_none e f blocked_pair =
      let e_out = partner_of_input chart.events is_wired.matched e blocked_pair.inputs.0 in
      let f_out = partner_of_input chart.events is_wired.matched f blocked_pair.inputs.1 in
      let e_in : partner chart.events (partner chart.events e) ≡ e = is_wired.matched.to_and_fro e (input_below chart.events e blocked_pair.inputs.0) in
      let outs : Enforced chart (partner chart.events e) (partner chart.events f) =
      elim (into_input chart is_wired e f (drawn_enforced e f blocked_pair.drawn) blocked_pair.inputs.1) [
        | inl same ↦ absurd (not_both chart.events e (subst (λ (z : ℕ). is_output chart.events z ≡ true) (sym same) f_out) blocked_pair.inputs.0)
        | inr other ↦ elim other [
          | inl late ↦ e_joined (e_sent e_out e_in) late
          | inr mate ↦ mate.2
        ]
      ] in
      elim (nearly (partner chart.events e) (partner chart.events f) outs) [
        | inl a ↦ blocked_pair.free a
        | inr a ↦ not_both chart.events (partner chart.events f) f_out a.2.second
      ]
