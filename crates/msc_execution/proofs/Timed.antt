-- The logs of an execution, sorted by their keys, are a run whose lines are the logs.
use Rattle.std.proofs.Common.{◌≡◌, ℕ, ◌<◌, true, false, List, [], length, get_or, refl, sym, ap, subst, ◌∙◌, arith}
use Rattle.std.specs.List.{concat}
use Rattle.msc_chart.specs.Orders.{WiredChart, queue}
use Rattle.msc_chart.specs.Charts.{line, partner, is_input}
use Rattle.msc_chart.specs.Runs.{Run, HasLines}
use Rattle.msc_chart.specs.Lists.{occurs, until}
use Rattle.msc_chart.proofs.ListLemmas.{by_test, clash, until-within, occurs-left, IsDistinct, until-self}
use Rattle.msc_chart.proofs.KindTests.{output_below}
use Rattle.msc_chart.proofs.Drawn.{partner_of_output}
use Rattle.msc_gather.specs.Schedule.{log_of, is_logged, AreLogs, goes_first, MayFollow, IsSchedule, IsSeated}
use Rattle.msc_gather.proofs.Once.{until-total, steps_from}
use Rattle.msc_gather.proofs.ScheduleLemmas.{run_of_schedule, lines_of_schedule}
use Rattle.msc_gather.proofs.ComesFirst.{first_cases}
use Rattle.msc_execution.specs.Clocks.{Places, messages, key_of, comes_sooner, is_below, sorted, trace_of}
use Rattle.msc_execution.specs.Timed.{IsTimed, taken_from}
use Rattle.msc_gather.proofs.Distinct.{distinct_of_once, once_of_distinct, IsDistinct-concat, in_concat, of_concat}
use Rattle.msc_execution.proofs.Sorting.{below_self, below_trans, occurs-sorted, IsDistinct-sorted, Rises-sorted, rises_at}
use Rattle.msc_execution.proofs.Queued.{taken_has}
use Rattle.msc_execution.proofs.Rising.{log_known, logged_there}
use Rattle.msc_execution.proofs.Keys.{keys_in_log, key_of_input, keys_in_queue}

-- what follows from the facts of an execution
module _ {chart : WiredChart} {instances : ℕ} {logs : List (List ℕ)} {places : Places}
    (seated : IsSeated chart instances) (timed : IsTimed chart instances logs places) where
  -- the logs of an execution are logs of the chart
  pub logs_of_timed : AreLogs chart instances logs
  logs_of_timed = record {
    lines = timed.lines;
    sent = λ r below logged i.
        let q : ℕ = queue chart r in
        let has = taken_has chart q (log_of chart logs r) r i refl logged in
        let begins = timed.taken (line chart.events r) q (seated.on_lines r below) in
        let there : occurs (messages (places q)) (partner chart.events r) ≡ true =
        ap (λ l. occurs l (partner chart.events r)) begins.1
        ∙ occurs-left (taken_from chart q (log_of chart logs r)) begins.0
        (partner chart.events r) has in
        (timed.was_put q (partner chart.events r) there).2;
  }

  -- what has to come first has the smaller key
  pub keys_keep : (x y : ℕ) → y < length chart.events → is_logged chart logs y ≡ true
      → goes_first chart logs x y ≡ true
      → (x < length chart.events) × (is_logged chart logs x ≡ true)
      × (comes_sooner chart logs places x y ≡ true)
  keys_keep x y below logged goes =
      first_cases chart logs x y goes
      (λ h. (
        (log_known seated timed y x below (until-within (log_of chart logs y) y x h)).0,
        logged_there seated timed y x
            below (until-within (log_of chart logs y) y x h),
        keys_in_log seated timed x y below
            logged h,
      ))
      (λ o p.
      let back : partner chart.events y ≡ x = subst (λ (z : ℕ). partner chart.events z ≡ x) p
      (seated.is_wired.matched.to_and_fro x (output_below chart.events x o)) in
      let yi : is_input chart.events y ≡ true =
      subst (λ (z : ℕ). is_input chart.events z ≡ true) p
      (partner_of_output chart.events seated.is_wired.matched x o) in
      let x_logged = subst (λ (z : ℕ). is_logged chart logs z ≡ true) back
      (logs_of_timed.sent y below logged yi) in (
        output_below chart.events x o,
        x_logged,
        key_of_input seated timed x y below logged o p
            x_logged,
      ))
      (λ ox oy same h.
      let r_below = seated.is_wired.matched.in_range x (output_below chart.events x ox) in
      let r_there = until-within (log_of chart logs (partner chart.events x))
      (partner chart.events y) (partner chart.events x) h in
      let x_logged = subst (λ (z : ℕ). is_logged chart logs z ≡ true)
      (seated.is_wired.matched.to_and_fro x (output_below chart.events x ox))
      (logs_of_timed.sent (partner chart.events x) r_below r_there
      (partner_of_output chart.events seated.is_wired.matched x ox)) in
      (output_below chart.events x ox, x_logged, keys_in_queue seated timed x y ox oy same h))

  -- the trace has what the logs have
  in_trace : (e : ℕ) → occurs (trace_of chart logs places) e ≡ occurs (concat logs) e
  unfolding trace_of
  in_trace e = occurs-sorted (comes_sooner chart logs places) (concat logs) e

  -- so it has what is logged
  trace_has : (e : ℕ) → e < length chart.events → is_logged chart logs e ≡ true
      → occurs (trace_of chart logs places) e ≡ true
  trace_has e below logged =
      let line_below : line chart.events e < instances = seated.on_lines e below in
      let many = timed.lines.as_many in
      in_trace e ∙ in_concat logs (line chart.events e) e (omega arith) logged

  -- and what it has is an event and is logged
  of_trace : (e : ℕ) → occurs (trace_of chart logs places) e ≡ true
      → (e < length chart.events) × (is_logged chart logs e ≡ true)
  of_trace e there =
      let found = of_concat logs e (sym (in_trace e) ∙ there) in
      let i : ℕ = found.0 in
      let many = timed.lines.as_many in
      let below : i < length logs = found.1 in
      let k = timed.lines.known i e (omega arith) found.2 in
      (k.0, ap (λ (j : ℕ). occurs (get_or logs j []) e) k.1 ∙ found.2)

  -- it holds nothing twice, since no two logs share an event
  trace_apart : IsDistinct (trace_of chart logs places)
  unfolding trace_of
  trace_apart =
      let many = timed.lines.as_many in
      IsDistinct-sorted (comes_sooner chart logs places) (concat logs)
      (IsDistinct-concat logs (λ i below.
      (distinct_of_once [] (get_or logs i []) (timed.lines.once i (omega arith))).0)
      (λ i j e bi bj hi hj. sym (timed.lines.known i e (omega arith) hi).1
      ∙ (timed.lines.known j e (omega arith) hj).1))

  -- and its keys do not fall
  trace_rises : (x y : ℕ) → occurs (trace_of chart logs places) y ≡ true
      → occurs (until (trace_of chart logs places) y) x ≡ true
      → comes_sooner chart logs places y x ≡ false
  unfolding trace_of
  trace_rises x y there h =
      rises_at (comes_sooner chart logs places)
      (sorted (comes_sooner chart logs places) (concat logs)) x y
      (Rises-sorted (comes_sooner chart logs places)
      (λ x k. below_self (key_of chart logs places x) k)
      (λ x y z p q. below_trans (key_of chart logs places x) (key_of chart logs places y)
      (key_of chart logs places z) p q) (concat logs)) there h

  -- so it keeps what comes first
  trace_schedule : IsSchedule chart logs (trace_of chart logs places)
  unfolding occurs
  trace_schedule = (
    steps_from (MayFollow chart logs) [] (trace_of chart logs places)
        (once_of_distinct [] (trace_of chart logs places) trace_apart (λ e h. refl))
        (λ e there.
        let k = of_trace e there in
        record {
          event = k.0;
          logged = k.1;
          new = until-self (trace_of chart logs places) e;
          behind = λ y goes.
              let first = keys_keep y e k.0 k.1 goes in
              let y_there = trace_has y first.0 first.1 in
              by_test (occurs (until (trace_of chart logs places) e) y) (λ done. done)
              (λ late.
              let apart : y ≡ e → ⊥ = λ same. below_self (key_of chart logs places y)
              (subst (λ (z : ℕ). is_below (key_of chart logs places y)
              (key_of chart logs places z) ≡ true) (sym same) first.2) in
              clash first.2 (trace_rises e y y_there
              (until-total (trace_of chart logs places) y e y_there apart late)));
        }),
    trace_has,
  )

  -- The logs sorted by their keys are a run whose lines are the logs.
  pub trace_is_run : Run chart (trace_of chart logs places)
      × HasLines chart instances logs (trace_of chart logs places)
  trace_is_run = (
    run_of_schedule seated logs_of_timed (trace_of chart logs places) trace_schedule,
    lines_of_schedule seated logs_of_timed (trace_of chart logs places) trace_schedule,
  )
