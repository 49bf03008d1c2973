-- The steps of a chart: what their tests say, and that they make up the whole order of ready lines.
use Rattle.std.proofs.Common.{◌≡◌, ℕ, ◌<◌, ◌⊎◌, true, false, inl, inr, length, refl, sym, ◌∙◌, subst}
use Rattle.std.proofs.lemmas.Bool.{and_from, and_parts, eq-eqb, eqb-true, or_cases, or_left, or_right}
use Rattle.msc_chart.specs.Charts.{partner, is_input, is_output, before}
use Rattle.msc_chart.specs.Orders.{WiredChart, IsWired, queue}
use Rattle.msc_chart.specs.Precedence.{all_ready, Precedes}
use Rattle.msc_chart.specs.Precedence.Precedes.{drawn, awaited, sent, joined, queued}
use Rattle.msc_follow.specs.Paths.{Path}
use Rattle.msc_follow.specs.Steps.{is_ahead, is_sent, leads}
use Rattle.msc_ready.specs.Finishing.{WholeOrder}
use Rattle.msc_follow.proofs.Shared.{before_differs, before_parts, clash, controlled_or_input, input_below, not_both, output_below, partner_of_input, partner_of_output}

module _ (chart : WiredChart) where
  -- a step of a message is from an output to its input
  pub sent_parts : (x y : ℕ) → is_sent chart x y ≡ true → (is_output chart.events x ≡ true) × (partner chart.events x ≡ y)
  unfolding is_sent
  sent_parts x y h = let p = and_parts _ _ h in (p.0, eqb-true _ _ p.1)

  -- and each output has one
  pub sent_from : (x y : ℕ) → is_output chart.events x ≡ true → partner chart.events x ≡ y → is_sent chart x y ≡ true
  unfolding is_sent
  sent_from x y o p = and_from _ _ o (eq-eqb _ _ p)

  -- a step ahead is between two outputs of one queue whose inputs are drawn in this order
  pub record IsAhead (x y : ℕ) : Type 0 where
    pub first : is_output chart.events x ≡ true
    pub second : is_output chart.events y ≡ true
    pub one_queue : queue chart x ≡ queue chart y
    pub inputs : before chart.events (partner chart.events x) (partner chart.events y) ≡ true

  pub ahead_parts : (x y : ℕ) → is_ahead chart x y ≡ true → IsAhead x y
  unfolding is_ahead
  ahead_parts x y h =
      let p = and_parts _ _ h in
      let outs = and_parts _ _ p.0 in
      let rest = and_parts _ _ p.1 in
      record { first = outs.0; second = outs.1; one_queue = eqb-true _ _ rest.0; inputs = rest.1 }

  pub ahead_from : (x y : ℕ) → IsAhead x y → is_ahead chart x y ≡ true
  unfolding is_ahead
  ahead_from x y a = and_from _ _ (and_from _ _ a.first a.second) (and_from _ _ (eq-eqb _ _ a.one_queue) a.inputs)

  -- each step is one of the three
  pub leads_cases : (x y : ℕ) → leads chart x y ≡ true
      → (is_sent chart x y ≡ true) ⊎ ((before chart.events x y ≡ true) ⊎ (is_ahead chart x y ≡ true))
  unfolding leads
  leads_cases x y h = elim (or_cases _ _ h) [
    | inl s ↦ inl s
    | inr other ↦ inr (or_cases _ _ other)
  ]

  pub sent_leads : (x y : ℕ) → is_sent chart x y ≡ true → leads chart x y ≡ true
  unfolding leads
  sent_leads x y h = or_left _ _ h

  pub drawn_leads : (x y : ℕ) → before chart.events x y ≡ true → leads chart x y ≡ true
  unfolding leads
  drawn_leads x y h = or_right _ _ (or_left _ _ h)

  pub ahead_leads : (x y : ℕ) → is_ahead chart x y ≡ true → leads chart x y ≡ true
  unfolding leads
  ahead_leads x y h = or_right _ _ (or_right _ _ h)

  -- a step is from an event of the chart
  pub leads_from : (x y : ℕ) → leads chart x y ≡ true → x < length chart.events
  leads_from x y h = elim (leads_cases x y h) [
    | inl s ↦ output_below chart.events x (sent_parts x y s).0
    | inr other ↦ elim other [
      | inl b ↦ (before_parts chart.events x y b).0
      | inr a ↦ output_below chart.events x (ahead_parts x y a).first
    ]
  ]

module _ (chart : WiredChart) (is_wired : IsWired chart) where
  -- steps are between events of the chart
  pub leads_below : (x y : ℕ) → leads chart x y ≡ true → (x < length chart.events) × (y < length chart.events)
  leads_below x y h = elim (leads_cases chart x y h) [
    | inl s ↦
        let p = sent_parts chart x y s in
        let below = output_below chart.events x p.0 in
        (below, subst (λ (z : ℕ). z < length chart.events) p.1 (is_wired.matched.in_range x below))
    | inr other ↦ elim other [
      | inl b ↦ let p = before_parts chart.events x y b in (p.0, p.1)
      | inr a ↦
          let p = ahead_parts chart x y a in
          (output_below chart.events x p.first, output_below chart.events y p.second)
    ]
  ]

  -- no step leads from an event to itself
  pub leads_elsewhere : (x : ℕ) → leads chart x x ≡ true → ⊥
  leads_elsewhere x h = elim (leads_cases chart x x h) [
    | inl s ↦
        let p = sent_parts chart x x s in
        not_both chart.events x p.0
        (subst (λ (z : ℕ). is_input chart.events z ≡ true) p.1 (partner_of_output chart.events is_wired.matched x p.0))
    | inr other ↦ elim other [
      | inl b ↦ before_differs chart.events x x b refl
      | inr a ↦ before_differs chart.events _ _ (ahead_parts chart x x a).inputs refl
    ]
  ]

  -- each step is in the whole order of a chart whose lines are all ready
  pub step_whole : (x y : ℕ) → leads chart x y ≡ true → WholeOrder chart all_ready x y
  step_whole x y h = elim (leads_cases chart x y h) [
    | inl s ↦ let p = sent_parts chart x y s in WholeOrder.needed (sent p.0 p.1)
    | inr other ↦ elim other [
      | inl b ↦ elim (controlled_or_input chart.events y (before_parts chart.events x y b).1) [
        | inl c ↦ WholeOrder.needed (drawn b c)
        | inr i ↦ WholeOrder.needed (awaited b i refl)
      ]
      | inr a ↦
          let p = ahead_parts chart x y a in
          let x_below = output_below chart.events x p.first in
          let y_below = output_below chart.events y p.second in
          WholeOrder.in_turn (partner chart.events x) (partner chart.events y)
          (partner_of_output chart.events is_wired.matched x p.first) (partner_of_output chart.events is_wired.matched y p.second)
          (is_wired.one_queue x x_below ∙ p.one_queue ∙ sym (is_wired.one_queue y y_below))
          p.inputs refl (is_wired.matched.to_and_fro x x_below) (is_wired.matched.to_and_fro y y_below)
    ]
  ]

  -- so paths are, too
  pub path_whole : (x y : ℕ) → Path (leads chart) x y → WholeOrder chart all_ready x y
  path_whole x y (Path.step h) = step_whole x y h
  path_whole x y (Path.joined {y = m} h k) = WholeOrder.joined (path_whole x m h) (path_whole m y k)

  -- the outputs of two inputs of one queue, drawn in this order, are a step
  pub turn_leads : (r u : ℕ) → is_input chart.events r ≡ true → is_input chart.events u ≡ true → queue chart r ≡ queue chart u → before chart.events r u ≡ true
      → leads chart (partner chart.events r) (partner chart.events u) ≡ true
  turn_leads r u ir iu same b =
      let r_below = input_below chart.events r ir in
      let u_below = input_below chart.events u iu in
      let r_back = is_wired.matched.to_and_fro r r_below in
      let u_back = is_wired.matched.to_and_fro u u_below in
      ahead_leads chart _ _ (ahead_from chart _ _ (record {
        first = partner_of_input chart.events is_wired.matched r ir;
        second = partner_of_input chart.events is_wired.matched u iu;
        one_queue = is_wired.one_queue r r_below ∙ same ∙ sym (is_wired.one_queue u u_below);
        inputs = rw (r_back, u_back) b;
      }))

  -- what precedes what without the rule of queues is a path
  precedes_path : (x y : ℕ) → Precedes chart all_ready false x y → Path (leads chart) x y
  precedes_path x y (drawn h o) = Path.step (drawn_leads chart x y h)
  precedes_path x y (awaited h i l) = Path.step (drawn_leads chart x y h)
  precedes_path x y (sent o p) = Path.step (sent_leads chart x y (sent_from chart x y o p))
  precedes_path x y (joined {y = m} h k) = Path.joined (precedes_path x m h) (precedes_path m y k)
  precedes_path x y (queued rule os ot same h p q l) = clash rule refl

  -- and so is the whole order
  pub whole_path : (x y : ℕ) → WholeOrder chart all_ready x y → Path (leads chart) x y
  whole_path x y (WholeOrder.needed h) = precedes_path x y h
  whole_path x y (WholeOrder.in_turn r u {s = s} {t = t} ir iu same b set p q) =
      Path.step (subst (λ (z : ℕ). leads chart z y ≡ true) p (subst (λ (z : ℕ). leads chart (partner chart.events r) z ≡ true) q (turn_leads r u ir iu same b)))
  whole_path x y (WholeOrder.joined {y = m} h k) = Path.joined (whole_path x m h) (whole_path m y k)
