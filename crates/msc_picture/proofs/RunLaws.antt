-- The picture of a run is a run too, with the same lines.
use Rattle.std.proofs.Common.{◌≡◌, ℕ, zero, suc, ◌+◌, ◌<◌, Bool, true, false, ◌&&◌, ◌||◌, List, [], ◌∷◌, ◌++◌, length, get_or, Option, None, Some, nat_eq, inl, inr, sym, ap, subst, ◌∙◌, refl, append_assoc, arith}
use Rattle.std.proofs.lemmas.Bool.{and_parts, and_from, or_left, or_right, eqb-true, eq-eqb, lt-ltb, cases_eq, not-true, not_from_false}
use Rattle.std.proofs.lemmas.List.FromFn.{get_or-map-range_with_len}
use Rattle.msc_chart.specs.Charts.{line, partner, is_output, is_input, before}
use Rattle.msc_chart.specs.Lists.{Steps, occurs, until, IsFirst}
use Rattle.msc_chart.specs.Orders.{WiredChart, IsWired, queue}
use Rattle.msc_chart.specs.Runs.{Run, IsWhole, MayCome, is_waiting, state}
use Rattle.msc_chart.proofs.ListLemmas.{by_test, clash, step_at, parts, until-append, until-self, filter-first, first_occurs, before_first_fails, Steps-map}
use Rattle.msc_picture.specs.Frames.{Frame, level, is_some, is_sent_as, is_above, is_queued_before, goes_first, MayFollow, IsDrawnNext, IsDrawingOrder}
use Rattle.msc_picture.specs.RunFrames.{place_of, are_queued, queued_before, run_frame}
use Rattle.msc_picture.specs.Laws.{KeepsLinesOf}
use Rattle.msc_picture.proofs.DrawnLemmas.{next_may}
use Rattle.msc_picture.proofs.Events.{before_parts, output_known}
use Rattle.msc_picture.proofs.RunOrder.{place_less, before_on, one_first, until_here, run_once, QueuedThere, queued_there}

-- the inputs of a queue are on one line
pub OneReceiver : WiredChart → Type 0
OneReceiver chart =
    (r u : ℕ) → is_input chart.events r ≡ true → is_input chart.events u ≡ true
    → queue chart r ≡ queue chart u → line chart.events r ≡ line chart.events u

-- a whole run, and the order in which it is drawn
module _ (chart : WiredChart) (wired : IsWired chart) (run order : List ℕ) (steps : Run chart run)
    (whole : IsWhole chart run)
    (drawn : Steps (MayFollow (run_frame chart run)) [] order)
    (all : (e : ℕ) → e < length chart.events → occurs order e ≡ true) where
  -- what has to be drawn before an event is
  drawn_before : (x y : ℕ) → x < length chart.events → y < length chart.events
      → goes_first (run_frame chart run) x y ≡ true → occurs (until order y) x ≡ true
  drawn_before x y p q first =
      (step_at (MayFollow (run_frame chart run)) order y drawn (all y q)).1.behind x p first

  -- the order of each line is kept
  pub lines_kept : KeepsLinesOf chart.events run order
  lines_kept x y p q same h =
      let f = run_frame chart run in
      let at_x : level f x ≡ place_of run x =
      get_or-map-range_with_len (place_of run) 0 (length chart.events) x x 0 p (omega arith) in
      let at_y : level f y ≡ place_of run y =
      get_or-map-range_with_len (place_of run) 0 (length chart.events) y y 0 q (omega arith) in
      let less : level f x < level f y = omega (arith, at_x, at_y, place_less run x y h) in
      let above : is_above f x y ≡ true =
      and_from _ _ (eq-eqb _ _ same) (lt-ltb (level f x) (level f y) less) in
      drawn_before x y p q
      (or_right (is_sent_as f x y) (is_above f x y || is_queued_before f x y)
      (or_left (is_above f x y) (is_queued_before f x y) above))

  -- an output that is drawn before another one for their queue
  queued_kept : (t y : ℕ) → t < length chart.events → y < length chart.events
      → queued_before chart run y ≡ Some t → occurs (until order y) t ≡ true
  queued_kept t y p q is =
      let f = run_frame chart run in
      let at_y : get_or f.after y None ≡ Some t =
      get_or-map-range_with_len (queued_before chart run) 0 (length chart.events) y y None q
      (omega arith) ∙ is in
      let queued : is_queued_before f t y ≡ true =
      ap (λ (o : Option ℕ). is_some o t) at_y ∙ eq-eqb t t refl in
      drawn_before t y p q
      (or_right (is_sent_as f t y) (is_above f t y || is_queued_before f t y)
      (or_right (is_above f t y) (is_queued_before f t y) queued))

  -- both are outputs of one queue
  both_known : (x y : ℕ) → are_queued chart x y ≡ true
      → (is_output chart.events x ≡ true) × (is_output chart.events y ≡ true)
      × (queue chart x ≡ queue chart y)
  both_known x y h =
      let pair = and_parts (is_output chart.events x && is_output chart.events y) _ h in
      let outs = and_parts (is_output chart.events x) _ pair.0 in
      (outs.0, outs.1, eqb-true _ _ pair.1)

  -- the outputs of a queue are drawn in the order of the run
  queues_kept : (most x y : ℕ) → place_of run y < most → are_queued chart x y ≡ true
      → occurs (until run y) x ≡ true → occurs (until order y) x ≡ true
  unfolding QueuedThere
  queues_kept zero x y less both h = absurd (omega arith)
  queues_kept (suc most) x y less both h =
      let on = queued_there chart run None x y (run_once chart [] run steps) both h in
      let t = on.0 in
      let ends = both_known t y on.2.0 in
      let start = both_known x y both in
      let kept = queued_kept t y (output_known chart.events t ends.0)
      (output_known chart.events y ends.1) on.1 in
      elim on.2.2 [
        | inl same ↦ subst (λ (w : ℕ). occurs (until order y) w ≡ true) same kept
        | inr before ↦
            let nearer = place_less run t y on.2.1 in
            let pair : are_queued chart x t ≡ true =
            and_from _ _ (and_from _ _ start.0 ends.0) (eq-eqb _ _ (start.2 ∙ sym ends.2)) in
            before_on order x t y (queues_kept most x t (omega arith) pair before) kept
      ]

  -- of two outputs of a queue of which the first comes first in the run, the first is taken first
  taken_first : (s t e : ℕ) → e < length chart.events → is_input chart.events e ≡ true
      → partner chart.events e ≡ s → are_queued chart t s ≡ true → occurs (until run s) t ≡ true
      → occurs (until run e) (partner chart.events t) ≡ true
  unfolding is_waiting
  taken_first s t e below takes own both h =
      let at_e = step_at (MayCome chart) run e steps (whole e below) in
      let past = until run e in
      let waits : ℕ → Bool = is_waiting chart (queue chart e) past in
      let head : IsFirst (state chart (queue chart e) past) s =
      subst (λ (w : ℕ). IsFirst (state chart (queue chart e) past) w) own (at_e.1.input takes) in
      let there : occurs past s ≡ true = (first_occurs waits past s head).0 in
      let split = parts run e (whole e below) in
      let prefix : until run s ≡ until past s =
      ap (λ (l : List ℕ). until l s) split.1 ∙ until-append past (e ∷ split.0) s there in
      let earlier : occurs (until past s) t ≡ true =
      subst (λ (l : List ℕ). occurs l t ≡ true) prefix h in
      let gone = before_first_fails waits past s t head earlier in
      let ends = both_known t s both in
      let one : queue chart s ≡ queue chart e =
      ap (λ (w : ℕ). queue chart w) (sym own) ∙ wired.one_queue e below in
      let sends : (is_output chart.events t && nat_eq (queue chart t) (queue chart e)) ≡ true =
      and_from _ _ ends.0 (eq-eqb _ _ (ends.2 ∙ one)) in
      by_test (occurs past (partner chart.events t)) (λ yes. yes) (λ no.
      clash (and_from _ _ sends (not_from_false _ no)) gone)

  module _ (receiver : OneReceiver chart) where
    -- the message of an input is the first of its queue
    first_of_queue : (e : ℕ) → e < length chart.events → is_input chart.events e ≡ true
        → IsFirst (state chart (queue chart e) (until order e)) (partner chart.events e)
    unfolding is_waiting OneReceiver
    first_of_queue e below takes =
        let matched = wired.matched in
        let s = partner chart.events e in
        let past = until order e in
        let waits : ℕ → Bool = is_waiting chart (queue chart e) past in
        let s_below : s < length chart.events = matched.in_range e below in
        let s_sends : is_output chart.events s ≡ true = matched.other_kind e below ∙ takes in
        let to_e : partner chart.events s ≡ e = matched.to_and_fro e below in
        let sent : is_sent_as (run_frame chart run) s e ≡ true =
        and_from _ _ s_sends (eq-eqb _ _ to_e) in
        let s_there : occurs past s ≡ true =
        drawn_before s e s_below below
        (or_left (is_sent_as (run_frame chart run) s e) _ sent) in
        let one : queue chart s ≡ queue chart e = wired.one_queue e below in
        let s_queued : (is_output chart.events s && nat_eq (queue chart s) (queue chart e)) ≡ true =
        and_from _ _ s_sends (eq-eqb _ _ one) in
        let not_taken : occurs past (partner chart.events s) ≡ false =
        ap (λ (w : ℕ). occurs past w) to_e ∙ until-self order e in
        let s_waits : waits s ≡ true = and_from _ _ s_queued (not_from_false _ not_taken) in
        let found = filter-first waits past s s_there s_waits in
        let t = found.0 in
        let known = first_occurs waits past t found.1 in
        let t_parts = and_parts (is_output chart.events t && nat_eq (queue chart t) (queue chart e)) _
        known.1 in
        let t_sends = and_parts (is_output chart.events t) _ t_parts.0 in
        let t_queue : queue chart t ≡ queue chart e = eqb-true _ _ t_sends.1 in
        let t_left = not-true _ t_parts.1 in
        let t_below : t < length chart.events = output_known chart.events t t_sends.0 in
        elim (cases_eq t s) [
          | inl same ↦ subst (λ (w : ℕ). IsFirst (state chart (queue chart e) past) w) same found.1
          | inr other ↦ elim (one_first run t s (whole t t_below) (whole s s_below) other) [
            | inl first ↦
                let both : are_queued chart t s ≡ true =
                and_from _ _ (and_from _ _ t_sends.0 s_sends) (eq-eqb _ _ (t_queue ∙ sym one)) in
                let r = partner chart.events t in
                let r_below : r < length chart.events = matched.in_range t t_below in
                let r_takes : is_input chart.events r ≡ true =
                sym (matched.other_kind r r_below)
                ∙ ap (λ (w : ℕ). is_output chart.events w) (matched.to_and_fro t t_below)
                ∙ t_sends.0 in
                let r_queue : queue chart r ≡ queue chart e =
                wired.one_queue t t_below ∙ t_queue in
                let together = receiver r e r_takes takes r_queue in
                clash (lines_kept r e r_below below together
                (taken_first s t e below takes refl both first)) t_left
            | inr second ↦
                let both : are_queued chart s t ≡ true =
                and_from _ _ (and_from _ _ s_sends t_sends.0) (eq-eqb _ _ (one ∙ sym t_queue)) in
                let kept = queues_kept (place_of run t + 1) s t (omega arith) both second in
                let split = parts order e (all e below) in
                let prefix : until order t ≡ until past t =
                ap (λ (l : List ℕ). until l t) split.1 ∙ until-append past (e ∷ split.0) t known.0 in
                let earlier : occurs (until past t) s ≡ true =
                subst (λ (l : List ℕ). occurs l s ≡ true) prefix kept in
                clash s_waits (before_first_fails waits past t s found.1 earlier)
          ]
        ]

    -- each event that is drawn may come next
    may_come : (e : ℕ) → e < length chart.events → MayCome chart (until order e) e
    may_come e below = record {
      event = below;
      new = until-self order e;
      controlled = λ own x drawn_x.
          let p = before_parts chart.events x e drawn_x in
          let at_e = step_at (MayCome chart) run e steps (whole e below) in
          lines_kept x e p.0 below p.2 (at_e.1.controlled own x drawn_x);
      input = first_of_queue e below;
    }

    -- so the order is a run
    come_steps : (past xs : List ℕ) → past ++ xs ≡ order
        → Steps (MayFollow (run_frame chart run)) past xs → Steps (MayCome chart) past xs
    come_steps past [] same follow = tt
    come_steps past (e ∷ es) same follow = (
      let prefix : until order e ≡ past =
          ap (λ (l : List ℕ). until l e) (sym same) ∙ until_here past e es follow.0.new in
          subst (λ (l : List ℕ). MayCome chart l e) prefix (may_come e follow.0.event),
      come_steps (past ++ e ∷ []) es (append_assoc past (e ∷ []) es ∙ same) follow.1,
    )

    pub drawn_run : Run chart order
    drawn_run = come_steps [] order refl drawn

-- a drawing order is a list in which each event may follow those before it
pub drawn_follow : (f : Frame) (ranks : Option (List ℕ)) (order : List ℕ)
    → Steps (IsDrawnNext f ranks) [] order
    → Steps (MayFollow f) [] order
drawn_follow f ranks order steps =
    Steps-map (IsDrawnNext f ranks) (MayFollow f) (λ past e h. next_may h) [] order steps

-- the picture of a whole run is a whole run with the same lines
pub picture_run : (chart : WiredChart) (ranks : Option (List ℕ)) (run order : List ℕ)
    → IsWired chart
    → ((r u : ℕ) → is_input chart.events r ≡ true → is_input chart.events u ≡ true
    → queue chart r ≡ queue chart u → line chart.events r ≡ line chart.events u)
    → Run chart run → IsWhole chart run → IsDrawingOrder (run_frame chart run) ranks order
    → Run chart order × KeepsLinesOf chart.events run order
unfolding OneReceiver
picture_run chart ranks run order wired receiver steps whole drawn =
    let follow = drawn_follow (run_frame chart run) ranks order drawn.steps in (
      drawn_run chart wired run order steps whole follow drawn.whole receiver,
      lines_kept chart wired run order steps whole follow drawn.whole,
    )
