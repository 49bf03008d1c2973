-- Where there is no blocked pair, what does not stand after an event of a line that is not ready,
-- some whole ready run has without the event before it.
use Rattle.std.proofs.Common.{◌≡◌, ℕ, ◌<◌, Bool, true, false, ◌&&◌, ◌||◌, not, ◌⊎◌, inl, inr, List, [], ◌++◌, length, eqb, refl, sym, ap, ◌∙◌, subst, arith}
use Rattle.std.proofs.lemmas.Bool.{eqb-true, eq-eqb, cases_lt, and_parts, and_from, or_cases, or_left, or_right, not-true, not_from_false, false_from_ne_true}
use Rattle.msc_chart.specs.Lists.{occurs, until, IsFirst, Steps}
use Rattle.msc_chart.specs.Charts.{IsAcyclic, line, segment, partner, is_output, is_input, before}
use Rattle.msc_chart.specs.Orders.{WiredChart, IsWired, queue}
use Rattle.msc_chart.specs.Runs.{is_waiting, state, IsWhole, Reverses}
use Rattle.msc_ready.specs.Readiness.{MayComeReady, ReadyRun, ReadyOrder}
use Rattle.msc_chart.specs.Precedence.Precedes.{drawn, awaited, sent, joined, queued}
use Rattle.msc_ready.specs.BlockedPairs.{HasNoBlockedPair, IsRaceLeft}
use Rattle.msc_chart.proofs.Drawn.{before_from}
use Rattle.msc_ready.proofs.Runs.Keeping.{HaveOneLine, kept}
use Rattle.msc_ready.proofs.Runs.Progress.{CanCome, progress}
use Rattle.msc_ready.proofs.Runs.Growing.{reach_all}
use Rattle.msc_ready.proofs.Runs.Acyclic.{join_up, ready_acyclic, then_up, up_then}
use Rattle.msc_race.proofs.Runs.EnforcedPairs.{precedes_below}
use Rattle.msc_race.proofs.Runs.Needed.{is_needed, needed_drawn, needed_awaited, needed_sent}
use Rattle.msc_race.proofs.Runs.Tables.{needed_order, precedes_order}
use Rattle.msc_ready.proofs.Runs.Sticking.{blocked_pair_of, goes_on}
use Rattle.msc_ready.proofs.Shared.{by_test, clash, step_at, Steps-map, until-within, until-append, occurs-left, before_differs, before_parts, before_first_fails, first_occurs, controlled_no_input, controlled_or_input, input_below, output_below, output_controlled, partner_of_input, partner_of_output, waiting_from}

module _ (chart : WiredChart) (is_wired : IsWired chart) (lines : HaveOneLine chart) (acyclic : IsAcyclic chart.events)
    (ready : ℕ → Bool) (none : HasNoBlockedPair chart ready) (e : ℕ)
    (e_loose : ready (line chart.events e) ≡ false) where
  -- a is b, or stands before it
  abbrev UpTo : ℕ → ℕ → Type 0
  UpTo a b = (a ≡ b) ⊎ ReadyOrder chart ready a b

  -- by the table
  order : ℕ → ℕ → Bool
  order = (precedes_order chart is_wired ready true).0

  -- another event than e, that does not stand after it
  free : ℕ → Bool
  free x = not (eqb e x) && not (order e x)

  -- so it says
  free_parts : (x : ℕ) → free x ≡ true → UpTo e x → ⊥
  unfolding free order
  free_parts x h up =
      let both = and_parts _ _ h in
      elim up [
        | inl same ↦ clash (eq-eqb e x same) (not-true _ both.0)
        | inr k ↦ clash ((precedes_order chart is_wired ready true).1.complete e x k) (not-true _ both.1)
      ]

  -- and of any other event
  not_free : (x : ℕ) → free x ≡ false → UpTo e x
  unfolding free order
  not_free x h =
      by_test (eqb e x) (λ same. inl (eqb-true e x same))
      (λ other. by_test (order e x)
      (λ k. inr ((precedes_order chart is_wired ready true).1.holds e x k))
      (λ out. clash (and_from _ _ (not_from_false _ other) (not_from_false _ out)) h))

  -- what is neither e nor after it is free
  free_from : (x : ℕ) → (UpTo e x → ⊥) → free x ≡ true
  free_from x never = by_test (free x) (λ h. h) (λ out. absurd (never (not_free x out)))

  -- what stands before a free event is free
  free_down : (x y : ℕ) → ReadyOrder chart ready x y → free y ≡ true → free x ≡ true
  free_down x y h member = free_from x (λ up. free_parts y member (inr (up_then up h)))

  -- what stands before an input of a ready line is its output, or before that, or is drawn before
  -- the input, or before such an event
  into_ready : (x r : ℕ) → ReadyOrder chart ready x r → is_input chart.events r ≡ true → ready (line chart.events r) ≡ true
      → UpTo x (partner chart.events r) ⊎ ((y : ℕ) × UpTo x y × (before chart.events y r ≡ true))
  into_ready x r (drawn h o) i set = absurd (controlled_no_input chart.events r o i)
  into_ready x r (awaited h j l) i set = inr (x, inl refl, h)
  into_ready x r (sent o p) i set =
      inl (inl (rw (← p) (sym (is_wired.matched.to_and_fro x (output_below chart.events x o)))))
  into_ready x r (joined {y = m} h k) i set =
      elim (into_ready m r k i set) [
        | inl up ↦ inl (inr (then_up h up))
        | inr found ↦ inr (found.0, inr (then_up h found.1), found.2)
      ]
  into_ready x r (queued rule os ot same h p q l) i set = clash set l

  -- What stands before an input of a line that is not ready, and is neither its output nor before
  -- that, is an input of its queue whose output stands before that one.
  into_loose : (x r : ℕ) → ReadyOrder chart ready x r → is_input chart.events r ≡ true → ready (line chart.events r) ≡ false
      → (UpTo x (partner chart.events r) → ⊥)
      → (is_input chart.events x ≡ true) × (queue chart x ≡ queue chart r)
      × ReadyOrder chart ready (partner chart.events x) (partner chart.events r)
  into_loose x r (drawn h o) i loose never = absurd (controlled_no_input chart.events r o i)
  into_loose x r (awaited h j l) i loose never = clash l loose
  into_loose x r (sent o p) i loose never =
      absurd (never (inl (rw (← p) (sym (is_wired.matched.to_and_fro x (output_below chart.events x o))))))
  into_loose x r (joined {y = m} h k) i loose never =
      let late = into_loose m r k i loose (λ up. never (inr (then_up h up))) in
      let same : line chart.events r ≡ line chart.events m = lines r m i late.0 (sym late.1) in
      let first = into_loose x m h late.0 (subst (λ (z : ℕ). ready z ≡ false) same loose) (λ up. never (join_up up (inr late.2))) in
      (first.0, first.1 ∙ late.1, joined first.2 late.2)
  into_loose x r (queued {s = s} {t = t} rule os ot same h p q l) i loose never =
      let s_below = output_below chart.events s os in
      let t_below = output_below chart.events t ot in
      let x_back : partner chart.events x ≡ s = rw (← p) (is_wired.matched.to_and_fro s s_below) in
      let r_back : partner chart.events r ≡ t = rw (← q) (is_wired.matched.to_and_fro t t_below) in
      let x_queue : queue chart x ≡ queue chart s = rw (← p) (is_wired.one_queue s s_below) in
      let r_queue : queue chart r ≡ queue chart t = rw (← q) (is_wired.one_queue t t_below) in (
        rw (← p) (partner_of_output chart.events is_wired.matched s os),
        x_queue ∙ same ∙ sym r_queue,
        rw (x_back, r_back) h,
      )

  -- r is an input that is not free, while its output is
  record IsHeld (r : ℕ) : Type 0 where
    pub input : is_input chart.events r ≡ true
    pub out : UpTo e r
    pub free : free (partner chart.events r) ≡ true

  -- u is a free input of the queue of r
  record IsFreeMate (r u : ℕ) : Type 0 where
    pub input : is_input chart.events u ≡ true
    pub queues : queue chart r ≡ queue chart u
    pub free : free u ≡ true

  -- what the table has stands in the order
  ordered : (s t : ℕ) → order s t ≡ true → ReadyOrder chart ready s t
  unfolding order
  ordered s t h = (precedes_order chart is_wired ready true).1.holds s t h

  -- and of all that stands in the order
  in_table : (s t : ℕ) → ReadyOrder chart ready s t → order s t ≡ true
  unfolding order
  in_table s t h = (precedes_order chart is_wired ready true).1.complete s t h

  -- where the line of such an input is ready, the output of each free input of its queue stands
  -- before its own
  held_ready : (r u : ℕ) → IsHeld r → IsFreeMate r u → ready (line chart.events r) ≡ true
      → ReadyOrder chart ready (partner chart.events u) (partner chart.events r)
  held_ready r u held mate set =
      let one : line chart.events r ≡ line chart.events u = lines r u held.input mate.input mate.queues in
      let after : ReadyOrder chart ready e r = elim held.out [
        | inl same ↦ clash set (subst (λ (z : ℕ). ready (line chart.events z) ≡ false) same e_loose)
        | inr h ↦ h
      ] in
      elim (into_ready e r after held.input set) [
        | inl up ↦ absurd (free_parts _ held.free up)
        | inr found ↦
            let y : ℕ = found.0 in
            let above = before_parts chart.events y r found.2 in
            let u_below = input_below chart.events u mate.input in
            let rises : segment chart.events y < segment chart.events r = above.3 in
            let drawn_so : before chart.events u r ≡ true =
            elim (cases_lt (segment chart.events y) (segment chart.events u)) [
              | inl less ↦
                  let over = before_from chart.events y u above.0 u_below (above.2 ∙ one) less in
                  absurd (free_parts u mate.free (inr (up_then found.1 (awaited over mate.input (subst (λ (z : ℕ). ready z ≡ true) one set)))))
              | inr more ↦ before_from chart.events u r u_below above.1 (sym one) (omega arith)
            ] in
            by_test (order (partner chart.events u) (partner chart.events r))
            (λ h. ordered _ _ h)
            (λ out. absurd (none u r (record {
              drawn = drawn_so;
              inputs = (mate.input, held.input);
              one_queue = sym mate.queues;
              line = set;
              free = λ h. clash (in_table _ _ h) out;
            })))
      ]

  -- elsewhere it is of the queue of e
  held_loose : (r : ℕ) → IsHeld r → ready (line chart.events r) ≡ false
      → (is_input chart.events e ≡ true) × (queue chart e ≡ queue chart r)
  held_loose r held loose =
      elim held.out [
        | inl same ↦ (subst (λ (z : ℕ). is_input chart.events z ≡ true) (sym same) held.input, ap (λ (z : ℕ). queue chart z) same)
        | inr h ↦ let found = into_loose e r h held.input loose (free_parts _ held.free) in (found.0, found.1)
      ]

  -- and its output stands before that of no free input of the queue
  held_late : (r u : ℕ) → IsHeld r → IsFreeMate r u → ready (line chart.events r) ≡ false
      → UpTo (partner chart.events r) (partner chart.events u) → ⊥
  held_late r u held mate loose up =
      let r_below = input_below chart.events r held.input in
      let u_below = input_below chart.events u mate.input in
      let one : line chart.events r ≡ line chart.events u = lines r u held.input mate.input mate.queues in
      let r_back = is_wired.matched.to_and_fro r r_below in
      let u_back = is_wired.matched.to_and_fro u u_below in
      free_parts u mate.free (elim up [
        | inl same ↦
            let is : r ≡ u = sym r_back ∙ ap (partner chart.events) same ∙ u_back in
            subst (λ (z : ℕ). UpTo e z) is held.out
        | inr h ↦
            let outs : queue chart (partner chart.events r) ≡ queue chart (partner chart.events u) =
            is_wired.one_queue r r_below ∙ mate.queues ∙ sym (is_wired.one_queue u u_below) in
            inr (up_then held.out (queued refl (partner_of_input chart.events is_wired.matched r held.input) (partner_of_input chart.events is_wired.matched u mate.input)
            outs h r_back u_back (subst (λ (z : ℕ). ready z ≡ false) one loose)))
      ])

  -- x is an output whose input is free, of the queue of y, a free output whose input is not free
  -- and of a line that is not ready
  waits : ℕ → ℕ → Bool
  waits x y =
      (is_output chart.events x && is_output chart.events y)
      && (eqb (queue chart x) (queue chart y)
      && (not (ready (line chart.events (partner chart.events y)))
      && (free (partner chart.events x) && (free y && not (free (partner chart.events y))))))

  -- so s goes before t
  record GoesFirst (s t : ℕ) : Type 0 where
    pub first : is_output chart.events s ≡ true
    pub second : is_output chart.events t ≡ true
    pub held : IsHeld (partner chart.events t)
    pub mate : IsFreeMate (partner chart.events t) (partner chart.events s)
    pub loose : ready (line chart.events (partner chart.events t)) ≡ false

  -- what passes goes first
  first_of_waits : (s t : ℕ) → waits s t ≡ true → GoesFirst s t
  unfolding waits
  first_of_waits s t h =
      let both = and_parts _ _ h in
      let outs = and_parts _ _ both.0 in
      let share = and_parts _ _ both.1 in
      let own = and_parts _ _ share.1 in
      let frees = and_parts _ _ own.1 in
      let last = and_parts _ _ frees.1 in
      let s_below = output_below chart.events s outs.0 in
      let t_below = output_below chart.events t outs.1 in
      record {
        first = outs.0;
        second = outs.1;
        held = record {
          input = partner_of_output chart.events is_wired.matched t outs.1;
          out = not_free (partner chart.events t) (not-true _ last.1);
          free = rw (is_wired.matched.to_and_fro t t_below) last.0;
        };
        mate = record {
          input = partner_of_output chart.events is_wired.matched s outs.0;
          queues = is_wired.one_queue t t_below ∙ sym (eqb-true _ _ share.0) ∙ sym (is_wired.one_queue s s_below);
          free = frees.0;
        };
        loose = not-true _ own.0;
      }

  -- and so passes the output of a free input of the queue of one whose output alone is free
  waits_of_held : (r u : ℕ) → IsHeld r → IsFreeMate r u → ready (line chart.events r) ≡ false → free r ≡ false
      → waits (partner chart.events u) (partner chart.events r) ≡ true
  unfolding waits
  waits_of_held r u held mate loose out =
      let r_below = input_below chart.events r held.input in
      let u_below = input_below chart.events u mate.input in
      let r_back = is_wired.matched.to_and_fro r r_below in
      let u_back = is_wired.matched.to_and_fro u u_below in
      let outs = and_from _ _ (partner_of_input chart.events is_wired.matched u mate.input) (partner_of_input chart.events is_wired.matched r held.input) in
      let share = eq-eqb _ _ (is_wired.one_queue u u_below ∙ sym mate.queues ∙ sym (is_wired.one_queue r r_below)) in
      and_from _ _ outs (and_from _ _ share (rw (r_back, u_back)
      (and_from _ _ (not_from_false _ loose) (and_from _ _ mate.free (and_from _ _ held.free (not_from_false _ out))))))

  -- over such a pair from x to y
  record GoesOverFirst (x y : ℕ) : Type 0 where
    pub s : ℕ
    pub t : ℕ
    pub goes : GoesFirst s t
    pub to : UpTo x s
    pub from : UpTo t y

  -- the second of a pair stands before the first of none
  apart : (s t u v : ℕ) → GoesFirst s t → GoesFirst u v → UpTo t u → ⊥
  apart s t u v one other up =
      let here = held_loose (partner chart.events t) one.held one.loose in
      let there = held_loose (partner chart.events v) other.held other.loose in
      let mate : IsFreeMate (partner chart.events t) (partner chart.events u) = record {
        input = other.mate.input;
        queues = sym here.1 ∙ there.1 ∙ other.mate.queues;
        free = other.mate.free;
      } in
      let t_back = is_wired.matched.to_and_fro t (output_below chart.events t one.second) in
      let u_back = is_wired.matched.to_and_fro u (output_below chart.events u other.first) in
      held_late (partner chart.events t) (partner chart.events u) one.held mate one.loose (rw (t_back, u_back) up)

  -- what has to come before what, so that all that is free comes first
  Before : ℕ → ℕ → Type 0
  Before x y = ReadyOrder chart ready x y ⊎ GoesOverFirst x y

  -- by one rule
  needs : ℕ → ℕ → Bool
  needs x y = is_needed chart ready x y || waits x y

  -- two of them
  before_trans : (x y z : ℕ) → Before x y → Before y z → Before x z
  unfolding Before
  before_trans x y z (inl h) (inl k) = inl (joined h k)
  before_trans x y z (inl h) (inr b) = inr (record { s = b.s; t = b.t; goes = b.goes; to = inr (then_up h b.to); from = b.from })
  before_trans x y z (inr a) (inl k) = inr (record { s = a.s; t = a.t; goes = a.goes; to = a.to; from = inr (up_then a.from k) })
  before_trans x y z (inr a) (inr b) = absurd (apart a.s a.t b.s b.t a.goes b.goes (join_up a.from b.to))

  -- the free events can come first
  can_come_free : CanCome chart ready free needs Before
  unfolding needs Before
  can_come_free = record {
    base = λ x y h. elim (or_cases _ _ h) [
      | inl one ↦ inl (needed_order chart ready true x y one)
      | inr two ↦ inr (record { s = x; t = y; goes = first_of_waits x y two; to = inl refl; from = inl refl })
    ];
    trans = before_trans;
    irreflexive = λ x below h. elim h [
      | inl k ↦ ready_acyclic chart is_wired ready lines acyclic x k
      | inr a ↦ apart a.s a.t a.s a.t a.goes a.goes (join_up a.from a.to)
    ];
    known = λ x y h. elim (or_cases _ _ h) [
      | inl one ↦ (precedes_below chart is_wired ready true x y (needed_order chart ready true x y one)).0
      | inr two ↦ output_below chart.events x (first_of_waits x y two).first
    ];
    closed = λ x y h member. elim (or_cases _ _ h) [
      | inl one ↦ free_down x y (needed_order chart ready true x y one) member
      | inr two ↦ let goes = first_of_waits x y two in free_down x _ (sent goes.first refl) goes.mate.free
    ];
    drawn = λ x y b o. or_left _ _ (needed_drawn chart ready x y b o);
    awaited = λ x y b i l. or_left _ _ (needed_awaited chart ready x y b i l);
    sent = λ x i. or_left _ _ (needed_sent chart ready (partner chart.events x) x (partner_of_input chart.events is_wired.matched x i)
        (is_wired.matched.to_and_fro x (input_below chart.events x i)));
  }

  -- x is free and may come next, and has what goes before it behind it
  record MayFree (past : List ℕ) (x : ℕ) : Type 0 where
    pub may : MayComeReady chart ready past x
    pub free : free x ≡ true
    pub waited : (y : ℕ) → waits y x ≡ true → occurs past y ≡ true

  -- such steps are those of a ready run
  free_run : (past : List ℕ) → Steps MayFree [] past → ReadyRun chart ready past
  free_run past steps = Steps-map MayFree (MayComeReady chart ready) (λ p x h. h.may) [] past steps

  -- the input of the first message of a queue in which one for a free input waits is free
  first_free : (past : List ℕ) → Steps MayFree [] past → (x r : ℕ) → is_input chart.events x ≡ true → IsFreeMate x r
      → occurs past r ≡ false → IsFirst (state chart (queue chart r) past) (partner chart.events x) → free x ≡ true
  first_free past steps x r ix mate left first =
      by_test (free x) (λ h. h) (λ out.
      let s : ℕ = partner chart.events x in
      let r_below = input_below chart.events r mate.input in
      let there = (first_occurs (is_waiting chart (queue chart r) past) past s first).0 in
      let at_s = step_at MayFree past s steps there in
      let held : IsHeld x = record { input = ix; out = not_free x out; free = at_s.1.free } in
      let early : occurs (until past s) (partner chart.events r) ≡ true =
      by_test (ready (line chart.events x))
      (λ set. kept chart is_wired ready past (free_run past steps) (partner chart.events r) s (held_ready x r held mate set) there)
      (λ loose. at_s.1.waited (partner chart.events r) (waits_of_held x r held mate loose out)) in
      let waiting : is_waiting chart (queue chart r) past (partner chart.events r) ≡ true =
      waiting_from chart (queue chart r) past (partner chart.events r) (partner_of_input chart.events is_wired.matched r mate.input)
      (is_wired.one_queue r r_below) (rw (is_wired.matched.to_and_fro r r_below) left) in
      clash waiting (before_first_fails (is_waiting chart (queue chart r) past) past s (partner chart.events r) first early))

  -- while a free event is left, some free event may come so
  free_on : (past : List ℕ) → Steps MayFree [] past → (g : ℕ) → g < length chart.events → free g ≡ true
      → occurs past g ≡ false → (x : ℕ) × MayFree past x
  unfolding needs
  free_on past steps g below member new =
      let run = free_run past steps in
      let next = progress chart is_wired lines ready free needs Before can_come_free past
      (λ x r ix ir same drawn_so set in_set early. none x r (blocked_pair_of chart is_wired lines acyclic ready past run x r ix ir same drawn_so set early))
      g below member new in (
        next.0,
        record {
          may = next.1.may;
          free = elim next.1.member [
            | inl h ↦ h
            | inr other ↦ first_free past steps next.0 other.0 other.1.input
                (record { input = other.1.for.input; queues = other.1.queues; free = other.1.for.member })
                other.1.for.left other.1.first
          ];
          waited = λ y h. next.1.served (output_controlled chart.events next.0 (first_of_waits y next.0 h).second) y (or_right _ _ h);
        },
      )

  -- So some whole ready run has f, and e not before it.
  pub reversed : (f : ℕ) → f < length chart.events → (UpTo e f → ⊥)
      → (events : List ℕ) × ReadyRun chart ready events × IsWhole chart events × Reverses events e f
  reversed f below never =
      let all = reach_all MayFree (length chart.events) (λ past x h. (h.may.may.event, h.may.may.new)) free free_on [] tt in
      let run : List ℕ = all.0 in
      let there = all.2 f below (free_from f never) in
      let e_out : occurs run e ≡ false = false_from_ne_true _ (λ h. free_parts e (step_at MayFree run e all.1 h).1.free (inl refl)) in
      let late : occurs (until run f) e ≡ false = false_from_ne_true _ (λ early. clash (until-within run f e early) e_out) in
      let on = goes_on chart is_wired lines acyclic ready none run (free_run run all.1) in (
        run ++ on.0,
        on.1,
        on.2,
        (occurs-left run on.0 f there, ap (λ (l : List ℕ). occurs l e) (until-append run on.0 f there) ∙ late),
      )

module _ (chart : WiredChart) (is_wired : IsWired chart) (lines : HaveOneLine chart) (acyclic : IsAcyclic chart.events)
    (ready : ℕ → Bool) (none : HasNoBlockedPair chart ready) (e f : ℕ) where
  -- some whole ready run reverses the pair
  abbrev pub SomeReverses : Type 0
  SomeReverses = (events : List ℕ) × ReadyRun chart ready events × IsWhole chart events × Reverses events e f

  -- so it does with a race that is left
  pub race_reversed : IsRaceLeft chart ready e f → SomeReverses
  race_reversed race =
      let p = before_parts chart.events e f race.0 in
      reversed chart is_wired lines acyclic ready none e race.1 f p.1
      (λ up. elim up [ inl same ↦ before_differs chart.events e f race.0 same | inr h ↦ race.2 h ])

  -- and with no other drawn pair
  pub only_races : before chart.events e f ≡ true → SomeReverses → IsRaceLeft chart ready e f
  only_races drawn_so some =
      let never : ReadyOrder chart ready e f → ⊥ =
      λ h. clash (kept chart is_wired ready some.0 some.1 e f h some.3.0) some.3.1 in
      let p = before_parts chart.events e f drawn_so in
      let loose : ready (line chart.events e) ≡ false =
      false_from_ne_true _ (λ set. never (elim (controlled_or_input chart.events f p.1) [
        | inl c ↦ drawn drawn_so c
        | inr i ↦ awaited drawn_so i (subst (λ (z : ℕ). ready z ≡ true) p.2 set)
      ])) in
      (drawn_so, loose, never)
