-- The runs whose lines are given logs are the schedules of these logs.
use Rattle.std.proofs.Common.{◌≡◌, ℕ, ◌<◌, Bool, true, ◌↔◌, eqb, List, [], length, get_or, filter, refl, sym, ap, subst, ◌∙◌}
use Rattle.std.proofs.lemmas.Bool.{eqb-true, eq-eqb, and_parts, false_from_ne_true}
use Rattle.msc_chart.specs.Orders.{WiredChart, queue}
use Rattle.msc_chart.specs.Charts.{line, partner, is_output, is_input, before}
use Rattle.msc_chart.specs.Runs.{Run, MayCome, is_waiting, state, on_line, HasLines}
use Rattle.msc_chart.specs.Lists.{Steps, occurs, until, IsFirst}
use Rattle.msc_chart.proofs.ListLemmas.{by_test, clash, step_at, until-within, first_occurs, before_first_fails, Steps-map, until-other, filter-passes, until-self}
use Rattle.msc_chart.proofs.KindTests.{output_below}
use Rattle.msc_chart.proofs.Waiting.{taken, waiting_from, waiting_parts}
use Rattle.msc_chart.proofs.Drawn.{partner_of_output, partner_of_input}
use Rattle.msc_gather.specs.Schedule.{log_of, is_logged, AreLogs, MayFollow, IsSchedule, IsSeated}
use Rattle.msc_gather.proofs.Once.{IsNew, until-until, until-total, steps_from, Steps-map_with, FollowsAsNew, same_list}
use Rattle.msc_gather.proofs.Filters.{Steps-filter, occurs-filter, filter-within, until-filter, first_from}
use Rattle.msc_gather.proofs.LinkLemmas.{on}
use Rattle.msc_gather.proofs.ComesFirst.{first_in_log, first_sent, first_queued, first_cases}

-- what is drawn before an event is on its line
same_line : (chart : WiredChart) (x y : ℕ) → before chart.events x y ≡ true
    → line chart.events x ≡ line chart.events y
unfolding before
same_line chart x y h = eqb-true _ _ (and_parts _ _ (and_parts _ _ h).1).0

-- A run with these lines is a schedule of them.
module _ {chart : WiredChart} {instances : ℕ} {logs : List (List ℕ)} {events : List ℕ}
    (seated : IsSeated chart instances) (run : Run chart events)
    (lines : HasLines chart instances logs events) where
  -- what occurs in a run is an event
  event_below : (e : ℕ) → occurs events e ≡ true → e < length chart.events
  event_below e h = (step_at (MayCome chart) events e run h).1.event

  -- a log is what the run has on its line
  log_is : (i : ℕ) → i < instances → filter (on chart i) events ≡ get_or logs i []
  unfolding on_line
  log_is i below = lines.each i below

  -- the same of the log of an event
  log_of_is : (e : ℕ) → e < length chart.events
      → filter (on chart (line chart.events e)) events ≡ log_of chart logs e
  log_of_is e below = log_is (line chart.events e) (seated.on_lines e below)

  -- what a log has is in the run, and what the run has is in a log
  in_run : (e y : ℕ) → e < length chart.events → occurs (log_of chart logs e) y ≡ true
      → occurs events y ≡ true
  in_run e y below h = filter-within (on chart (line chart.events e)) events y
      (ap (λ l. occurs l y) (log_of_is e below) ∙ h)

  -- and the log of its line has what the run has
  in_log : (e : ℕ) → e < length chart.events → occurs events e ≡ true
      → is_logged chart logs e ≡ true
  in_log e below h =
      ap (λ l. occurs l e) (sym (log_of_is e below))
      ∙ occurs-filter (on chart (line chart.events e)) events e (eq-eqb _ _ refl) ∙ h

  -- what stands before an event in its log is what stands before it in the run, on that line
  before_in_log : (e u : ℕ) → e < length chart.events → line chart.events u ≡ line chart.events e
      → until (log_of chart logs e) u ≡ filter (on chart (line chart.events e)) (until events u)
  before_in_log e u below same =
      ap (λ l. until l u) (sym (log_of_is e below))
      ∙ until-filter (on chart (line chart.events e)) events u (eq-eqb _ _ same)

  -- so what stands before an event in its log stands before it in the run
  earlier_in_run : (e u y : ℕ) → e < length chart.events → line chart.events u ≡ line chart.events e
      → occurs (until (log_of chart logs e) u) y ≡ true → occurs (until events u) y ≡ true
  earlier_in_run e u y below same h =
      filter-within (on chart (line chart.events e)) (until events u) y
      (ap (λ l. occurs l y) (sym (before_in_log e u below same)) ∙ h)

  -- the lines of a run are logs of the chart
  pub logs_of_run : AreLogs chart instances logs
  logs_of_run = record {
    lines = record {
      as_many = lines.as_many;
      known = λ i e below h.
          let there : occurs (filter (on chart i) events) e ≡ true =
          ap (λ l. occurs l e) (log_is i below) ∙ h in (
            event_below e (filter-within (on chart i) events e there),
            eqb-true _ _
                (filter-passes (on chart i) events e there),
          );
      once = λ i below. subst (λ (l : List ℕ). Steps IsNew [] l) (log_is i below)
          (Steps-filter (MayCome chart) IsNew (on chart i)
          (λ past x passes may. occurs-filter (on chart i) past x passes ∙ may.new) [] events
          run);
      drawn = λ s x below logged o b.
          let at_s = step_at (MayCome chart) events s run (in_run s s below logged) in
          ap (λ l. occurs l x) (before_in_log s s below refl)
          ∙ occurs-filter (on chart (line chart.events s)) (until events s) x
          (eq-eqb _ _ (same_line chart x s b)) ∙ at_s.1.controlled o x b;
    };
    sent = λ r below logged i.
        let at_r = step_at (MayCome chart) events r run (in_run r r below logged) in
        let first = first_occurs (is_waiting chart (queue chart r) (until events r))
        (until events r) (partner chart.events r) (at_r.1.input i) in
        in_log (partner chart.events r) (seated.is_wired.matched.in_range r below)
        (until-within events r (partner chart.events r) first.0);
  }

  -- of two outputs of a queue that occur, the one whose input comes first comes first
  puts_in_order : (y e : ℕ) → is_output chart.events y ≡ true → is_output chart.events e ≡ true
      → queue chart y ≡ queue chart e → occurs events e ≡ true
      → occurs (until events (partner chart.events e)) (partner chart.events y) ≡ true
      → occurs (until events e) y ≡ true
  puts_in_order y e oy oe same there h =
      let r : ℕ = partner chart.events y in
      let u : ℕ = partner chart.events e in
      let y_below = output_below chart.events y oy in
      let r_there = until-within events u r h in
      let at_r = step_at (MayCome chart) events r run r_there in
      let ri : is_input chart.events r ≡ true =
      partner_of_output chart.events seated.is_wired.matched y oy in
      let back : partner chart.events r ≡ y = seated.is_wired.matched.to_and_fro y y_below in
      let first : IsFirst (state chart (queue chart r) (until events r)) y =
      subst (λ (z : ℕ). IsFirst (state chart (queue chart r) (until events r)) z) back
      (at_r.1.input ri) in
      let y_there = first_occurs (is_waiting chart (queue chart r) (until events r))
      (until events r) y first in
      let apart : y ≡ e → ⊥ = λ s. clash
      (subst (λ (z : ℕ). occurs (until events (partner chart.events z)) r ≡ true) (sym s) h)
      (until-self events r) in
      by_test (occurs (until events e) y) (λ done. done)
      (λ late.
      let e_first = until-total events y e (until-within events r y y_there.0) apart late in
      let e_in : occurs (until (until events r) y) e ≡ true =
      ap (λ l. occurs l e) (until-until events y r y_there.0) ∙ e_first in
      let fails = before_first_fails (is_waiting chart (queue chart r) (until events r))
      (until events r) y e first e_in in
      let gone = taken chart (queue chart r) (until events r) e oe
      (sym same ∙ sym (seated.is_wired.one_queue y y_below)) fails in
      clash gone (until-other events r u h))

  -- a run keeps what comes first in its lines
  pub schedule_of_run : IsSchedule chart logs events
  schedule_of_run = (
    steps_from (MayFollow chart logs) [] events
        (Steps-map (MayCome chart) IsNew (λ past x may. may.new) [] events run)
        (λ e there.
        let at_e = step_at (MayCome chart) events e run there in
        let below = event_below e there in
        record {
          event = below;
          logged = in_log e below there;
          new = until-self events e;
          behind = λ y goes. first_cases chart logs y e goes
              (λ h. earlier_in_run e e y below refl h)
              (λ o p.
              let ei : is_input chart.events e ≡ true =
              subst (λ (z : ℕ). is_input chart.events z ≡ true) p
              (partner_of_output chart.events seated.is_wired.matched y o) in
              let back : partner chart.events e ≡ y =
              subst (λ (z : ℕ). partner chart.events z ≡ y) p
              (seated.is_wired.matched.to_and_fro y (output_below chart.events y o)) in
              subst (λ (z : ℕ). occurs (until events e) z ≡ true) back
              (first_occurs (is_waiting chart (queue chart e) (until events e)) (until events e)
              (partner chart.events e) (at_e.1.input ei)).0)
              (λ oy oe same h.
              let y_below = output_below chart.events y oy in
              let ri = partner_of_output chart.events seated.is_wired.matched y oy in
              let ui = partner_of_output chart.events seated.is_wired.matched e oe in
              let lines_same : line chart.events (partner chart.events e)
              ≡ line chart.events (partner chart.events y) =
              seated.one_receiver (partner chart.events e) (partner chart.events y) ui ri
              (seated.is_wired.one_queue e below ∙ sym same
              ∙ sym (seated.is_wired.one_queue y y_below)) in
              puts_in_order y e oy oe same there
              (earlier_in_run (partner chart.events y) (partner chart.events e)
              (partner chart.events y) (seated.is_wired.matched.in_range y y_below) lines_same
              h));
        }),
    λ e below logged. in_run e e below logged,
  )

-- A schedule of logs is a run with these lines.
module _ {chart : WiredChart} {instances : ℕ} {logs : List (List ℕ)}
    (seated : IsSeated chart instances) (sound : AreLogs chart instances logs) where
  -- after a schedule of the logs, what may follow may come next: its queue shows its output first,
  -- since what stood before that output has been taken
  comes_next : (past : List ℕ) (x : ℕ) → Steps (MayFollow chart logs) [] past
      → MayFollow chart logs past x → MayCome chart past x
  comes_next past x before_x may = record {
    event = may.event;
    new = may.new;
    controlled = λ o y b. may.behind y
        (first_in_log chart logs y x (sound.lines.drawn x y may.event may.logged o b));
    input = λ i.
        let s : ℕ = partner chart.events x in
        let os = partner_of_input chart.events seated.is_wired.matched x i in
        let back : partner chart.events s ≡ x = seated.is_wired.matched.to_and_fro x may.event in
        let there = may.behind s (first_sent chart logs s x os back) in
        first_from (is_waiting chart (queue chart x) past) past s there
        (waiting_from chart (queue chart x) past s os (seated.is_wired.one_queue x may.event)
        (ap (λ z. occurs past z) back ∙ may.new))
        (λ t t_first. false_from_ne_true _ (λ waits.
        let w = waiting_parts chart (queue chart x) past t waits in
        let at_t = step_at (MayFollow chart logs) past t before_x (until-within past s t t_first) in
        let apart : x ≡ partner chart.events t → ⊥ = λ e.
        let s_is_t : s ≡ t = ap (λ z. partner chart.events z) e
        ∙ seated.is_wired.matched.to_and_fro t (output_below chart.events t w.0) in
        clash (subst (λ (z : ℕ). occurs (until past z) t ≡ true) s_is_t t_first)
        (until-self past t) in
        by_test (occurs (until (log_of chart logs x) (partner chart.events t)) x)
        (λ x_first.
        let goes = first_queued chart logs s t os w.0
        (seated.is_wired.one_queue x may.event ∙ sym w.1)
        (subst (λ (z : ℕ). occurs (until (log_of chart logs z) (partner chart.events t)) z ≡ true)
        (sym back) x_first) in
        clash (at_t.1.behind s goes) (until-other past t s t_first))
        (λ x_late.
        let t_input = until-total (log_of chart logs x) x (partner chart.events t) may.logged apart
        x_late in
        clash (may.behind (partner chart.events t)
        (first_in_log chart logs (partner chart.events t) x t_input)) w.2)));
  }

  -- so a schedule is a run
  pub run_of_schedule : (events : List ℕ) → IsSchedule chart logs events → Run chart events
  run_of_schedule events schedule = Steps-map_with (MayFollow chart logs) (MayCome chart) comes_next
      [] events tt schedule.0

  -- and its lines are the logs
  pub lines_of_schedule : (events : List ℕ) → IsSchedule chart logs events
      → HasLines chart instances logs events
  unfolding on_line
  lines_of_schedule events schedule = record {
    as_many = sound.lines.as_many;
    each = λ i below.
        let p : ℕ → Bool = on chart i in
        let log : List ℕ = get_or logs i [] in
        same_list [] log (filter p events) (sound.lines.once i below)
        (Steps-filter (MayFollow chart logs) (FollowsAsNew log) p (λ past x passes may.
        let x_line : line chart.events x ≡ i = eqb-true _ _ passes in
        let log_same : log_of chart logs x ≡ log = ap (λ (z : ℕ). get_or logs z []) x_line in
        record {
          there = ap (λ l. occurs l x) (sym log_same) ∙ may.logged;
          new = occurs-filter p past x passes ∙ may.new;
          behind = λ y h.
              let goes = first_in_log chart logs y x
              (ap (λ l. occurs (until l x) y) log_same ∙ h) in
              occurs-filter p past y
              (eq-eqb _ _ (sound.lines.known i y below (until-within log x y h)).1)
              ∙ may.behind y goes;
        }) [] events schedule.0)
        (λ e there.
        let k = sound.lines.known i e below there in
        occurs-filter p events e (eq-eqb _ _ k.1)
        ∙ schedule.1 e k.0 (ap (λ (z : ℕ). occurs (get_or logs z []) e) k.1 ∙ there));
  }

-- the runs with these lines are the schedules of the logs, and there is one only where the logs are
-- logs of the chart
pub exactly : (chart : WiredChart) (instances : ℕ) (logs : List (List ℕ)) (events : List ℕ)
    → IsSeated chart instances
    → (Run chart events × HasLines chart instances logs events)
    ↔ (AreLogs chart instances logs × IsSchedule chart logs events)
exactly chart instances logs events seated = (
  λ h. (logs_of_run seated h.0 h.1, schedule_of_run seated h.0 h.1),
  λ h. (run_of_schedule seated h.0 events h.1, lines_of_schedule seated h.0 events h.1),
)
