-- Sticks tell whether a system can stick.
use Rattle.std.proofs.Common.{◌≡◌, ℕ, ◌<◌, Bool, true, false, ◌&&◌, not, ◌⊎◌, inl, inr, List, [], ◌∷◌, ◌++◌, length, eqb, refl, sym, ap, ◌∙◌, subst}
use Rattle.std.proofs.lemmas.Bool.{eqb-true, eq-eqb, and_parts, and_from, not-true, not_from_false, false_from_ne_true}
use Rattle.std.proofs.Math.Nat.{le_refl}
use Rattle.msc_chart.specs.Lists.{occurs, until, Steps}
use Rattle.msc_chart.specs.Charts.{IsAcyclic, line, partner, is_output, is_input, before}
use Rattle.msc_chart.specs.Orders.{WiredChart, IsWired, queue}
use Rattle.msc_chart.specs.Runs.{Reverses}
use Rattle.msc_ready.specs.Readiness.{MayComeReady, ReadyRun, ReadyOrder, HasStuck}
use Rattle.msc_chart.specs.Precedence.Precedes.{drawn, joined}
use Rattle.msc_ready.specs.BlockedPairs.{IsBlockedPair, IsFirstBlockedPair, HasNoBlockedPair}
use Rattle.msc_ready.specs.Laws.{GoesOnReady}
use Rattle.msc_ready.proofs.Shared.{by_test, clash, count_below, find_below, descend, step_at, until-within, until-append, occurs-left, occurs-push, occurs_other, Steps-map, Steps-push, before_parts, input_below, output_below, not_both, partner_of_input, any_below, some_of_any, any_from, is_left, left_from, left_parts}
use Rattle.msc_race.proofs.Runs.Deciding.{may_decided}
use Rattle.msc_ready.proofs.Runs.Keeping.{HaveOneLine, not_behind}
use Rattle.msc_ready.proofs.Runs.Final.{lined_of, outputs_differ, final}
use Rattle.msc_ready.proofs.Runs.Progress.{CanCome, progress}
use Rattle.msc_ready.proofs.Runs.Growing.{everything, AreNew, IsDecided, reach_all, reach_end}
use Rattle.msc_ready.proofs.Runs.Acyclic.{ready_acyclic}
use Rattle.msc_race.proofs.Runs.EnforcedPairs.{precedes_below}
use Rattle.msc_race.proofs.Runs.Needed.{is_needed, needed_drawn, needed_awaited, needed_sent}
use Rattle.msc_race.proofs.Runs.Tables.{IsOrderTest, needed_order, precedes_order}

module _ (chart : WiredChart) (is_wired : IsWired chart) (lines : HaveOneLine chart) (acyclic : IsAcyclic chart.events)
    (ready : ℕ → Bool) where
  -- a set that holds what stands before its events in the ready order can come
  pub can_come : (inside : ℕ → Bool)
      → ((x y : ℕ) → ReadyOrder chart ready x y → inside y ≡ true → inside x ≡ true)
      → CanCome chart ready inside (is_needed chart ready) (ReadyOrder chart ready)
  can_come inside closed = record {
    base = λ x y h. needed_order chart ready true x y h;
    trans = λ x y z h k. joined h k;
    irreflexive = λ x below h. ready_acyclic chart is_wired ready lines acyclic x h;
    known = λ x y h. (precedes_below chart is_wired ready true x y (needed_order chart ready true x y h)).0;
    closed = λ x y h. closed x y (needed_order chart ready true x y h);
    drawn = needed_drawn chart ready;
    awaited = needed_awaited chart ready;
    sent = λ x i. needed_sent chart ready (partner chart.events x) x (partner_of_input chart.events is_wired.matched x i)
        (is_wired.matched.to_and_fro x (input_below chart.events x i));
  }

  -- an input whose output stands behind that of one of its queue that is drawn below makes a
  -- blocked pair with that
  pub blocked_pair_of : (past : List ℕ) → ReadyRun chart ready past → (x r : ℕ) → is_input chart.events x ≡ true
      → is_input chart.events r ≡ true → queue chart x ≡ queue chart r → before chart.events x r ≡ true
      → ready (line chart.events r) ≡ true
      → occurs (until past (partner chart.events x)) (partner chart.events r) ≡ true → IsBlockedPair chart ready x r
  blocked_pair_of past run x r ix ir same drawn_so set early = record {
    drawn = drawn_so;
    inputs = (ix, ir);
    one_queue = same;
    line = set;
    free = λ h. not_behind chart is_wired ready past run _ _ h early;
  }

  -- a step of a ready run is of an event that is new
  pub ready_new : AreNew (MayComeReady chart ready) (length chart.events)
  ready_new past x may = (may.may.event, may.may.new)

  -- where there is no blocked pair, every ready run goes on to a whole one
  pub goes_on : HasNoBlockedPair chart ready → (events : List ℕ) → ReadyRun chart ready events
      → GoesOnReady chart ready events
  goes_on none events run =
      let on : (past : List ℕ) → ReadyRun chart ready past → (g : ℕ) → g < length chart.events
      → everything g ≡ true → occurs past g ≡ false → (x : ℕ) × MayComeReady chart ready past x =
      λ past steps g below member new.
      let next = progress chart is_wired lines ready everything (is_needed chart ready) (ReadyOrder chart ready)
      (can_come everything (λ x y h k. refl)) past
      (λ x r ix ir same drawn_so set in_all early. none x r (blocked_pair_of past steps x r ix ir same drawn_so set early))
      g below member new in
      (next.0, next.1.may) in
      let all = reach_all (MayComeReady chart ready) (length chart.events) ready_new everything on events run in
      (all.0, all.1, λ e below. all.2 e below refl)

  -- what is drawn before an event that awaits it has occurred, or something has not
  awaited_decided : (past : List ℕ) (x : ℕ)
      → ((y : ℕ) → before chart.events y x ≡ true → occurs past y ≡ true)
      ⊎ ((y : ℕ) × (before chart.events y x ≡ true) × (occurs past y ≡ false))
  awaited_decided past x =
      elim (find_below (λ y. before chart.events y x && not (occurs past y)) (length chart.events)) [
        | inl found ↦ let both = and_parts _ _ found.2 in inr (found.0, both.0, not-true _ both.1)
        | inr none ↦ inl (λ y drawn_so. by_test (occurs past y) (λ there. there)
            (λ out.
            clash (and_from _ _ drawn_so (not_from_false _ out)) (none y (before_parts chart.events y x drawn_so).0)))
      ]

  -- an event may come next in a ready run, or may not
  pub ready_decided : (past : List ℕ) → IsDecided (MayComeReady chart ready past)
  ready_decided past x =
      elim (may_decided chart past x) [
        | inr never ↦ inr (λ h. never h.may)
        | inl may ↦ by_test (is_input chart.events x && ready (line chart.events x))
            (λ both.
            let own = and_parts _ _ both in
            elim (awaited_decided past x) [
              | inl all ↦ inl (record { may = may; awaited = λ i l. all })
              | inr some ↦ inr (λ h. clash (h.awaited own.0 own.1 some.0 some.1) some.2)
            ])
            (λ neither. inl (record { may = may; awaited = λ i l. clash (and_from _ _ i l) neither }))
      ]

  module _ (e f : ℕ) (first : IsFirstBlockedPair chart ready e f) where
    -- the second output
    abbrev second : ℕ
    second = partner chart.events f

    -- the second output is an output of the chart
    second_out : is_output chart.events second ≡ true
    second_out = partner_of_input chart.events is_wired.matched f first.blocked_pair.inputs.1

    -- an event that stands before the second output, by the table
    abbrev ahead : ℕ → Bool
    ahead x = (precedes_order chart is_wired ready true).0 x second

    -- an event that is ahead stands before the second output
    ahead_order : (x : ℕ) → ahead x ≡ true → ReadyOrder chart ready x second
    ahead_order x h = (precedes_order chart is_wired ready true).1.holds x second h

    -- x may come next, and is ahead or an input
    abbrev MayToward : List ℕ → ℕ → Type 0
    MayToward past x = MayComeReady chart ready past x × ((ahead x ≡ true) ⊎ (is_input chart.events x ≡ true))

    -- such steps are those of a ready run
    toward_run : (past : List ℕ) → Steps MayToward [] past → ReadyRun chart ready past
    toward_run past steps = Steps-map MayToward (MayComeReady chart ready) (λ p x h. h.0) [] past steps

    -- an output among them is ahead
    toward_outputs : (past : List ℕ) → Steps MayToward [] past → (s : ℕ) → is_output chart.events s ≡ true
        → occurs past s ≡ true → ReadyOrder chart ready s second
    toward_outputs past steps s o there =
        elim (step_at MayToward past s steps there).1.1 [
          | inl h ↦ ahead_order s h
          | inr i ↦ absurd (not_both chart.events s o i)
        ]

    -- the outputs of a list stand before the second output
    abbrev HasOutputsAhead : List ℕ → Type 0
    HasOutputsAhead past =
        (s : ℕ) → is_output chart.events s ≡ true → occurs past s ≡ true → ReadyOrder chart ready s second

    -- while something ahead is left, there is such a step: what would stand in the way is a blocked
    -- pair, and its second output is ahead
    ahead_on : (past : List ℕ) → ReadyRun chart ready past → HasOutputsAhead past → (g : ℕ) → g < length chart.events
        → ahead g ≡ true → occurs past g ≡ false → (x : ℕ) × MayToward past x
    ahead_on past run outs g below member new =
        let table = (precedes_order chart is_wired ready true).1 in
        let can = can_come ahead (λ x y h k. table.complete x second (joined h (ahead_order y k))) in
        let next = progress chart is_wired lines ready ahead (is_needed chart ready) (ReadyOrder chart ready) can past
        (λ x r ix ir same drawn_so set in_ahead early.
        let r_out = partner_of_input chart.events is_wired.matched r ir in
        let r_sent = until-within past (partner chart.events x) (partner chart.events r) early in
        first.none_ahead (x, r) (blocked_pair_of past run x r ix ir same drawn_so set early, outs _ r_out r_sent))
        g below member new in
        (next.0, (next.1.may, elim next.1.member [ inl member ↦ inl member | inr other ↦ inr other.1.input ]))

    -- so while steps on the way there have left something
    toward_on : (past : List ℕ) → Steps MayToward [] past → (g : ℕ) → g < length chart.events
        → ahead g ≡ true → occurs past g ≡ false → (x : ℕ) × MayToward past x
    toward_on past steps = ahead_on past (toward_run past steps) (toward_outputs past steps)

    -- where all that is ahead has occurred, the second output may come
    second_may : (past : List ℕ) → occurs past second ≡ false
        → ((x : ℕ) → x < length chart.events → ahead x ≡ true → occurs past x ≡ true) → MayComeReady chart ready past second
    second_may past new all = record {
      may = record {
        event = output_below chart.events second second_out;
        new = new;
        controlled = λ c y drawn_so. all y (before_parts chart.events y second drawn_so).0
            ((precedes_order chart is_wired ready true).1.complete y second (drawn drawn_so c));
        input = λ i. absurd (not_both chart.events second second_out i);
      };
      awaited = λ i. absurd (not_both chart.events second second_out i);
    }

    -- so before the second output has occurred, it or something ahead or an input may come
    pub toward_next : (past : List ℕ) → ReadyRun chart ready past → HasOutputsAhead past → occurs past second ≡ false
        → (x : ℕ) × MayComeReady chart ready past x
        × (((x ≡ second) ⊎ ReadyOrder chart ready x second) ⊎ (is_input chart.events x ≡ true))
    toward_next past run outs new =
        elim (find_below (is_left ahead past) (length chart.events)) [
          | inl found ↦
              let parts = left_parts ahead past found.0 found.2 in
              let next = ahead_on past run outs found.0 found.1 parts.0 parts.1 in
              (next.0, next.1.0, elim next.1.1 [ inl h ↦ inl (inr (ahead_order next.0 h)) | inr i ↦ inr i ])
          | inr none ↦
              let may = second_may past new (λ x below member. by_test (occurs past x) (λ there. there)
              (λ out. clash (left_from ahead past x member out) (none x below))) in
              (second, may, inl (inl refl))
        ]

    -- So some ready run has the second output and not, before it, the first; it goes on to one
    -- after which the system has stuck.
    pub met : (events : List ℕ) × HasStuck chart ready events × Reverses events (partner chart.events e) second
    met =
        let all = reach_all MayToward (length chart.events) (λ past x h. ready_new past x h.0) ahead toward_on [] tt in
        let front : List ℕ = all.0 in
        let steps : Steps MayToward [] front = all.1 in
        let run = toward_run front steps in
        let new : occurs front second ≡ false = false_from_ne_true _
        (λ there. ready_acyclic chart is_wired ready lines acyclic second (toward_outputs front steps second second_out there)) in
        let may = second_may front new all.2 in
        let sent_run = Steps-push (MayComeReady chart ready) front second run may in
        let sent_list : List ℕ = front ++ second ∷ [] in
        let more = reach_end (MayComeReady chart ready) (length chart.events) ready_new ready_decided sent_list sent_run in
        let there : occurs sent_list second ≡ true = occurs-push front second in
        let e_out = partner_of_input chart.events is_wired.matched e first.blocked_pair.inputs.0 in
        let not_there : occurs (until sent_list second) (partner chart.events e) ≡ false = false_from_ne_true _
        (λ early. absent front steps run e_out (until-within sent_list second (partner chart.events e) early)) in
        let reverses : Reverses sent_list (partner chart.events e) second = (there, not_there) in
        let whole : List ℕ = sent_list ++ more.0 in (
          whole,
          record {
            run = more.1;
            unfinished = final chart is_wired ready e f (lined_of chart ready e f first.blocked_pair) sent_list more.0 more.1 reverses;
            none = more.2;
          },
          (
            occurs-left sent_list more.0 second there,
            ap (λ (l : List ℕ). occurs l (partner chart.events e)) (until-append sent_list more.0 second there) ∙ not_there,
          ),
        )
      where
        -- the first output is not in it
        absent : (front : List ℕ) → Steps MayToward [] front → ReadyRun chart ready front
            → is_output chart.events (partner chart.events e) ≡ true
            → occurs (front ++ second ∷ []) (partner chart.events e) ≡ true → ⊥
        absent front steps run e_out there =
            by_test (occurs front (partner chart.events e))
            (λ early. first.blocked_pair.free (toward_outputs front steps _ e_out early))
            (λ out. clash there (occurs_other front second (partner chart.events e) (λ same. outputs_differ chart is_wired ready e f (lined_of chart ready e f first.blocked_pair) (sym same)) ∙ out))

  -- a blocked pair by a table of the ready order
  abbrev blocked_pair_test : (ℕ → ℕ → Bool) → ℕ → ℕ → Bool
  blocked_pair_test order e f =
      ((before chart.events e f && ready (line chart.events f))
      && (is_input chart.events e && is_input chart.events f))
      && (eqb (queue chart e) (queue chart f)
      && not (order (partner chart.events e) (partner chart.events f)))

  module _ (order : ℕ → ℕ → Bool) (told : IsOrderTest chart ready true order) where
    -- what passes is a blocked pair
    pub blocked_pair_of_test : (e f : ℕ) → blocked_pair_test order e f ≡ true → IsBlockedPair chart ready e f
    blocked_pair_of_test e f h =
        let both = and_parts _ _ h in
        let a = and_parts _ _ both.0 in
        let b = and_parts _ _ a.0 in
        let inputs = and_parts _ _ a.1 in
        let d = and_parts _ _ both.1 in
        record {
          drawn = b.0;
          inputs = (inputs.0, inputs.1);
          one_queue = eqb-true _ _ d.0;
          line = b.1;
          free = λ k. clash (told.complete _ _ k) (not-true _ d.1);
        }

    -- and a blocked pair passes
    pub test_of_blocked_pair : (e f : ℕ) → IsBlockedPair chart ready e f → blocked_pair_test order e f ≡ true
    test_of_blocked_pair e f h =
        let apart = false_from_ne_true _ (λ k. h.free (told.holds _ _ k)) in
        and_from _ _ (and_from _ _ (and_from _ _ h.drawn h.line) (and_from _ _ h.inputs.0 h.inputs.1))
        (and_from _ _ (eq-eqb _ _ h.one_queue) (not_from_false _ apart))

    -- t is the second output of a blocked pair
    is_second : ℕ → Bool
    is_second t = is_output chart.events t && any_below (λ e. blocked_pair_test order e (partner chart.events t)) (length chart.events)

    -- the second output of a blocked pair is one
    second_of : (e f : ℕ) → IsBlockedPair chart ready e f → is_second (partner chart.events f) ≡ true
    unfolding is_second
    second_of e f h =
        let below = before_parts chart.events e f h.drawn in
        let passes : blocked_pair_test order e (partner chart.events (partner chart.events f)) ≡ true =
        rw (is_wired.matched.to_and_fro f below.1) (test_of_blocked_pair e f h) in
        and_from _ _ (partner_of_input chart.events is_wired.matched f h.inputs.1)
        (any_from (λ d. blocked_pair_test order d (partner chart.events (partner chart.events f))) (length chart.events) e below.0 passes)

    -- such an output that stands behind no other is that of a first blocked pair
    first_with : (t : ℕ) → is_second t ≡ true
        → ((y : ℕ) → y < length chart.events → is_second y ≡ true → order y t ≡ false)
        → (e : ℕ) × (f : ℕ) × IsFirstBlockedPair chart ready e f
    unfolding is_second
    first_with t h least =
        let both = and_parts _ _ h in
        let f : ℕ = partner chart.events t in
        let t_below = output_below chart.events t both.0 in
        let back : partner chart.events f ≡ t = is_wired.matched.to_and_fro t t_below in
        let some = some_of_any (λ e. blocked_pair_test order e f) (length chart.events) both.1 in (
          some.0,
          f,
          record {
            blocked_pair = blocked_pair_of_test some.0 f some.2;
            none_ahead = λ p k.
                let before_t : ReadyOrder chart ready (partner chart.events p.1) t = subst (λ (z : ℕ). ReadyOrder chart ready (partner chart.events p.1) z) back k.1 in
                clash (told.complete _ t before_t)
                (least _ (precedes_below chart is_wired ready true _ t before_t).0 (second_of p.0 p.1 k.0));
          },
        )

  -- where there is a blocked pair, some blocked pair is first
  pub some_first : (e f : ℕ) → IsBlockedPair chart ready e f → (g : ℕ) × (h : ℕ) × IsFirstBlockedPair chart ready g h
  some_first e f blocked_pair =
      let table = precedes_order chart is_wired ready true in
      let second_test : ℕ → Bool = is_second table.0 table.1 in
      let fuel : ℕ = count_below second_test (length chart.events) in
      let t_out = partner_of_input chart.events is_wired.matched f blocked_pair.inputs.1 in
      let d = descend (length chart.events) table.0 (ReadyOrder chart ready)
      table.1.holds (λ x y z h k. joined h k)
      (λ x below h. ready_acyclic chart is_wired ready lines acyclic x h)
      fuel second_test (le_refl fuel) (partner chart.events f) (output_below chart.events _ t_out)
      (second_of table.0 table.1 e f blocked_pair) in
      first_with table.0 table.1 d.0 d.2 d.4

  -- where every ready run goes on to a whole one, there is no blocked pair
  pub none_where_all_go_on : ((events : List ℕ) → ReadyRun chart ready events → GoesOnReady chart ready events)
      → HasNoBlockedPair chart ready
  none_where_all_go_on on e f blocked_pair =
      let first = some_first e f blocked_pair in
      let shown = met first.0 first.1 first.2 in
      let more = on shown.0 shown.1.run in
      final chart is_wired ready first.0 first.1 (lined_of chart ready first.0 first.1 first.2.blocked_pair) shown.0 more.0 more.1 shown.2 more.2
