-- Some ready run is whole exactly where no ring leads along what has to come before what.
use Rattle.std.proofs.Common.{◌≡◌, ℕ, ◌<◌, Bool, true, false, ◌&&◌, ◌||◌, inl, inr, List, [], length, eqb, refl, sym, subst}
use Rattle.std.proofs.lemmas.Bool.{eqb-true, eq-eqb, and_parts, and_from, or_cases, or_left, or_right}
use Rattle.msc_chart.specs.Lists.{occurs, until, Steps}
use Rattle.msc_chart.specs.Charts.{line, partner, is_output, is_input, before}
use Rattle.msc_chart.specs.Orders.{WiredChart, IsWired, queue}
use Rattle.msc_chart.specs.Runs.{IsWhole}
use Rattle.msc_ready.specs.Readiness.{MayComeReady, ReadyRun}
use Rattle.msc_ready.specs.Finishing.{MayComeInTurn, WholeOrder, HasNoWholeRing, MayFinish}
use Rattle.msc_ready.specs.Finishing.WholeOrder.{needed, in_turn, joined}
use Rattle.msc_ready.proofs.Shared.{by_test, clash, step_at, until-within, until-other, until-self, Steps-map, input_below, output_below, output_controlled, partner_of_input, partner_of_output}
use Rattle.msc_race.proofs.Runs.Standing.{stands_trans}
use Rattle.msc_ready.proofs.Runs.Final.{IsLined, no_whole_run}
use Rattle.msc_ready.proofs.Runs.Keeping.{HaveOneLine, kept}
use Rattle.msc_ready.proofs.Runs.Progress.{CanCome, progress}
use Rattle.msc_ready.proofs.Runs.Growing.{everything, reach_all}
use Rattle.msc_race.proofs.Runs.EnforcedPairs.{precedes_below}
use Rattle.msc_race.proofs.Runs.Needed.{is_needed, needed_drawn, needed_awaited, needed_sent}
use Rattle.msc_race.proofs.Runs.Tables.{needed_order}

module _ (chart : WiredChart) (is_wired : IsWired chart) (lines : HaveOneLine chart) (ready : ℕ → Bool) where
  -- x and y are outputs whose inputs, of one queue, are drawn in this order on a ready line
  in_turn_test : ℕ → ℕ → Bool
  in_turn_test x y =
      (is_output chart.events x && is_output chart.events y)
      && (eqb (queue chart (partner chart.events x)) (queue chart (partner chart.events y))
      && (before chart.events (partner chart.events x) (partner chart.events y) && ready (line chart.events (partner chart.events y))))

  -- what has to come before what by one rule
  needs : ℕ → ℕ → Bool
  needs x y = is_needed chart ready x y || in_turn_test x y

  -- what passes is in the whole order
  needs_whole : (x y : ℕ) → needs x y ≡ true → WholeOrder chart ready x y
  unfolding needs in_turn_test
  needs_whole x y h =
      elim (or_cases _ _ h) [
        | inl one ↦ needed (needed_order chart ready false x y one)
        | inr two ↦
            let both = and_parts _ _ two in
            let outs = and_parts _ _ both.0 in
            let share = and_parts _ _ both.1 in
            let own = and_parts _ _ share.1 in
            let x_below = output_below chart.events x outs.0 in
            let y_below = output_below chart.events y outs.1 in
            in_turn (partner chart.events x) (partner chart.events y)
            (partner_of_output chart.events is_wired.matched x outs.0) (partner_of_output chart.events is_wired.matched y outs.1)
            (eqb-true _ _ share.0) own.0 own.1 (is_wired.matched.to_and_fro x x_below) (is_wired.matched.to_and_fro y y_below)
      ]

  -- the outputs of two such inputs pass
  turn_passes : (r u : ℕ) → is_input chart.events r ≡ true → is_input chart.events u ≡ true → queue chart r ≡ queue chart u
      → before chart.events r u ≡ true → ready (line chart.events u) ≡ true
      → needs (partner chart.events r) (partner chart.events u) ≡ true
  unfolding needs in_turn_test
  turn_passes r u ir iu same b set =
      let r_back = is_wired.matched.to_and_fro r (input_below chart.events r ir) in
      let u_back = is_wired.matched.to_and_fro u (input_below chart.events u iu) in
      let outs = and_from _ _ (partner_of_input chart.events is_wired.matched r ir) (partner_of_input chart.events is_wired.matched u iu) in
      or_right _ _ (and_from _ _ outs (rw (r_back, u_back) (and_from _ _ (eq-eqb _ _ same) (and_from _ _ b set))))

  -- the whole order relates events of the chart
  whole_below : (x y : ℕ) → WholeOrder chart ready x y → (x < length chart.events) × (y < length chart.events)
  whole_below x y (needed h) = precedes_below chart is_wired ready false x y h
  whole_below x y (in_turn r u ir iu same b set p q) = (
    subst (λ (z : ℕ). z < length chart.events) p (is_wired.matched.in_range r (input_below chart.events r ir)),
    subst (λ (z : ℕ). z < length chart.events) q (is_wired.matched.in_range u (input_below chart.events u iu)),
  )
  whole_below x y (joined {y = m} h k) = ((whole_below x m h).0, (whole_below m y k).1)

  -- what has to come before an event in turn stands before it
  KeepsTurns : List ℕ → Type 0
  KeepsTurns past =
      (r u : ℕ) → is_input chart.events r ≡ true → is_input chart.events u ≡ true → queue chart r ≡ queue chart u
      → before chart.events r u ≡ true → ready (line chart.events u) ≡ true → occurs past (partner chart.events u) ≡ true
      → occurs (until past (partner chart.events u)) (partner chart.events r) ≡ true

  -- a ready run that keeps turns keeps the whole order
  kept_whole : (past : List ℕ) → ReadyRun chart ready past → KeepsTurns past → (x y : ℕ) → WholeOrder chart ready x y
      → occurs past y ≡ true → occurs (until past y) x ≡ true
  unfolding KeepsTurns
  kept_whole past run turns x y (needed h) there = kept chart is_wired ready past run x y h there
  kept_whole past run turns x y (in_turn r u ir iu same b set p q) there =
      let sent_u : occurs past (partner chart.events u) ≡ true = subst (λ (z : ℕ). occurs past z ≡ true) (sym q) there in
      let found = turns r u ir iu same b set sent_u in
      subst (λ (z : ℕ). occurs (until past z) x ≡ true) q (subst (λ (z : ℕ). occurs (until past (partner chart.events u)) z ≡ true) p found)
  kept_whole past run turns x y (joined {y = m} h k) there =
      let m_early = kept_whole past run turns m y k there in
      let x_early = kept_whole past run turns x m h (until-within past y m m_early) in
      stands_trans past x m y x_early m_early

  -- steps in turn are those of a ready run
  pub turn_run : (past : List ℕ) → Steps (MayComeInTurn chart ready) [] past → ReadyRun chart ready past
  turn_run past steps = Steps-map (MayComeInTurn chart ready) (MayComeReady chart ready) (λ p x h. h.may) [] past steps

  -- and keep turns
  steps_keep : (past : List ℕ) → Steps (MayComeInTurn chart ready) [] past → KeepsTurns past
  unfolding KeepsTurns
  steps_keep past steps r u ir iu same b set there =
      (step_at (MayComeInTurn chart ready) past (partner chart.events u) steps there).1.turn r u ir iu same b set refl

  -- a whole ready run keeps turns
  whole_keeps : (whole : List ℕ) → ReadyRun chart ready whole → IsWhole chart whole → KeepsTurns whole
  unfolding KeepsTurns
  whole_keeps whole run all r u ir iu same b set there =
      by_test (occurs (until whole (partner chart.events u)) (partner chart.events r)) (λ early. early)
      (λ late.
      let lined : IsLined chart ready r u = record { drawn = b; first = ir; second = iu; one_queue = same; set = set } in
      absurd (no_whole_run chart is_wired ready r u lined whole run all (there, late)))

  -- so where some ready run is whole, there is no ring
  pub no_ring : MayFinish chart ready → HasNoWholeRing chart ready
  no_ring finish e h =
      let run = finish.1.0 in
      let all = finish.1.1 in
      let e_there = all e (whole_below e e h).0 in
      clash (kept_whole finish.0 run (whole_keeps finish.0 run all) e e h e_there) (until-self finish.0 e)

  module _ (none : HasNoWholeRing chart ready) where
    -- where there is no ring, all events can come
    can_come : CanCome chart ready everything needs (WholeOrder chart ready)
    unfolding needs
    can_come = record {
      base = needs_whole;
      trans = λ x y z h k. joined h k;
      irreflexive = λ x below h. none x h;
      known = λ x y h. (whole_below x y (needs_whole x y h)).0;
      closed = λ x y h k. refl;
      drawn = λ x y b o. or_left _ _ (needed_drawn chart ready x y b o);
      awaited = λ x y b i l. or_left _ _ (needed_awaited chart ready x y b i l);
      sent = λ x i. or_left _ _ (needed_sent chart ready (partner chart.events x) x (partner_of_input chart.events is_wired.matched x i)
          (is_wired.matched.to_and_fro x (input_below chart.events x i)));
    }

    -- while an event is left, some event may come in turn
    pub turn_on : (past : List ℕ) → Steps (MayComeInTurn chart ready) [] past → (g : ℕ) → g < length chart.events
        → occurs past g ≡ false → (x : ℕ) × MayComeInTurn chart ready past x
    turn_on past steps g below new =
        let run = turn_run past steps in
        let next = progress chart is_wired lines ready everything needs (WholeOrder chart ready) can_come past
        (λ x r ix ir same b set in_all early.
        let h = in_turn x r ix ir same b set refl refl in
        let there = until-within past (partner chart.events x) (partner chart.events r) early in
        clash early (until-other past _ _ (kept_whole past run (steps_keep past steps) _ _ h there)))
        g below refl new in (
          next.0,
          record {
            may = next.1.may;
            turn = λ r u ir iu same b set is.
                let out : is_output chart.events next.0 ≡ true = subst (λ (z : ℕ). is_output chart.events z ≡ true) is (partner_of_input chart.events is_wired.matched u iu) in
                next.1.served (output_controlled chart.events next.0 out) (partner chart.events r)
                (subst (λ (z : ℕ). needs (partner chart.events r) z ≡ true) is (turn_passes r u ir iu same b set));
          },
        )

    -- so some ready run is whole
    pub finishes : MayFinish chart ready
    finishes =
        let all = reach_all (MayComeInTurn chart ready) (length chart.events) (λ past x h. (h.may.may.event, h.may.may.new)) everything
        (λ past steps g below member new. turn_on past steps g below new) [] tt in
        (all.0, (turn_run all.0 all.1, λ e below. all.2 e below refl))
