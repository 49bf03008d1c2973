-- What each instance of an execution read, and the laws of clocks over executions.
use Rattle.std.proofs.Common.{◌≡◌, ◌⊎◌, ℕ, ◌<◌, ◌≤◌, Bool, true, cond, eqb, List, [], ◌++◌, length, inl, inr, refl, sym, ap, ◌∙◌, subst, arith}
use Rattle.std.proofs.lemmas.List.{append-nil, get_or_past}
use Rattle.std.proofs.lemmas.Bool.{cases_lt, eqb-true, eq-eqb}
use Rattle.msc_chart.specs.declared.queue.Queues.{Queues}
use Rattle.msc_chart.specs.Lists.{occurs}
use Rattle.msc_chart.specs.Drawings.{Drawing, IsAccepted}
use Rattle.msc_chart.specs.Orders.{wired}
use Rattle.msc_chart.specs.Runs.{Run, HasLines, HasNoMerge}
use Rattle.msc_chart.proofs.ListLemmas.{by_test, occurs-left}
use Rattle.msc_gather.specs.Schedule.{IsSeated}
use Rattle.msc_ending.specs.declared.end.End.{End}
use Rattle.msc_ending.specs.declared.end.End.TheVariants.{Finished, Stopped}
use Rattle.msc_execution.specs.Roles.{role, wired_ends}
use Rattle.msc_execution.specs.Logs.{Reading, clock_along}
use Rattle.msc_execution.specs.Running.{Left, IsRunBy, EndsAs}
use Rattle.msc_execution.specs.Executions.{Outcome, IsExecution, log_at, end_at}
use Rattle.msc_execution.specs.Clocks.{messages, place_clock}
use Rattle.msc_execution.specs.Timed.{IsTimed, all_puts}
use Rattle.msc_execution.specs.Shown.{shown_places, trace_in}
use Rattle.msc_execution.proofs.Timed.{trace_is_run}
use Rattle.msc_execution.proofs.Bounded.{clocks_bounded, places_bounded}
use Rattle.msc_execution.proofs.Clocks.Sources.{IsRead}
use Rattle.msc_execution.proofs.Clocks.Premises.{is_timed, along_is}
use Rattle.msc_execution.proofs.Clocks.Few.{few_puts}

module _ {queues : Queues} {d : Drawing} {open' : Bool} {patience : ℕ} {o : Outcome}
    (exec : IsExecution queues d open' patience o) where
  -- what instance i left
  abbrev left : ℕ → Left
  left i = record { log = log_at o i; ends = exec.back i; end = end_at o i }

  -- an instance's run, with what it read
  abbrev IsRunOf : ℕ → Reading → Type 0
  IsRunOf i reading =
      IsRunBy (role queues d i) open' patience reading (wired_ends exec.id (role queues d i))
      (left i)

  -- what an instance read, nothing past the last one
  read_by : (i : ℕ) → (i < length d.instances) ⊎ (length d.instances ≤ i) → Reading
  read_by i (inl below) = (exec.runs i below).reading
  read_by i (inr past) = record { read_at = λ e. 0; place_at = λ e. 0 }

  -- what each instance read
  read : ℕ → Reading
  read i = read_by i (cases_lt i (length d.instances))

  -- its run with that
  run_by : (i : ℕ) (c : (i < length d.instances) ⊎ (length d.instances ≤ i))
      → i < length d.instances → IsRunOf i (read_by i c)
  unfolding read_by
  run_by i (inl b) below = (exec.runs i b).run
  run_by i (inr p) below = absurd (omega arith)

  -- so each instance ran with what it read
  run : (i : ℕ) → i < length d.instances → IsRunOf i (read i)
  unfolding read
  run i below = run_by i (cases_lt i (length d.instances)) below

  -- the same, where one instance's reading is given
  read_with : ℕ → Reading → ℕ → Reading
  read_with i reading j = cond (eqb j i) reading (read j)

  -- each ran with that
  run_with : (i : ℕ) (reading : Reading) → IsRunOf i reading → (j : ℕ) → j < length d.instances
      → IsRunOf j (read_with i reading j)
  unfolding read_with
  run_with i reading h j below =
      by_test (eqb j i)
      (λ same.
      subst (λ (r : Reading). IsRunOf j r) (sym (ap (λ (b : Bool). cond b reading (read j)) same))
      (subst (λ (z : ℕ). IsRunOf z reading) (sym (eqb-true j i same)) h))
      (λ other. subst (λ (r : Reading). IsRunOf j r)
      (sym (ap (λ (b : Bool). cond b reading (read j)) other)) (run j below))

  -- the given reading is that instance's
  read_own : (i : ℕ) (reading : Reading) → read_with i reading i ≡ reading
  unfolding read_with
  read_own i reading = ap (λ (b : Bool). cond b reading (read i)) (eq-eqb i i refl)

  module _ (accepted : IsAccepted d) (seated : IsSeated (wired queues d) (length d.instances)) where
    -- an execution with what was read
    told : IsRead queues d open' patience o
    told = record { accepted = accepted; exec = exec; read = read; runs = run }

    -- the logs and the places of an execution fit one another
    pub timed_by : IsTimed (wired queues d) (length d.instances) o.logs (shown_places d o)
    timed_by = is_timed told seated

    -- sorted by their keys the events are a run, and its lines are the logs
    pub is_run : Run (wired queues d) (trace_in queues d o)
        × HasLines (wired queues d) (length d.instances) o.logs (trace_in queues d o)
    is_run = trace_is_run seated timed_by

    -- so it is absurd that no run has these lines
    pub has_merge : HasNoMerge (wired queues d) (length d.instances) o.logs → ⊥
    has_merge none = none (trace_in queues d o) is_run.0 is_run.1

    -- no more messages are put than the chart has
    pub puts_few : length (all_puts (wired queues d) o.logs) ≤ length d.messages
    puts_few = few_puts queues d accepted o.logs (shown_places d o) timed_by

    -- no clock along a log is greater than the number of messages that are put
    pub clocks_few : (i : ℕ) (below : i < length d.instances) (past rest : List ℕ)
        → log_at o i ≡ past ++ rest
        → clock_along d (exec.runs i below).reading.read_at past
        ≤ length (all_puts (wired queues d) o.logs)
    clocks_few i below past rest split =
        let has = exec.runs i below in
        let own : IsRead queues d open' patience o = record {
          accepted = accepted;
          exec = exec;
          read = read_with i has.reading;
          runs = run_with i has.reading has.run;
        } in
        let same =
        along_is own seated i past below
        (λ e there. ap (λ l. occurs l e) split ∙ occurs-left past rest e there) in
        let mine : clock_along d has.reading.read_at past
        ≡ clock_along d (read_with i has.reading i).read_at past =
        ap (λ (r : Reading). clock_along d r.read_at past) (sym (read_own i has.reading)) in
        let bound = clocks_bounded seated timed_by i past rest below split in
        omega arith

    -- nor is one of a place
    pub places_few : (q s : ℕ) → occurs (messages (shown_places d o q)) s ≡ true
        → place_clock (shown_places d o q) s ≤ length (all_puts (wired queues d) o.logs)
    places_few q s there = places_bounded seated timed_by q s there

    -- so with an open gate no instance is stopped
    pub none_stopped : open' ≡ true → (i : ℕ) → end_at o i ≡ Stopped → ⊥
    none_stopped is_open i stopped =
        elim (cases_lt i (length d.instances)) [
          | inl below ↦
              let has = exec.runs i below in
              let ended =
              subst (λ (e : End). EndsAs (role queues d i) open' patience has.reading
              (left i) has.run.strange e) stopped has.run.ended in
              let spent = ended.1 is_open in
              let bound = clocks_few i below (log_at o i) [] (sym (append-nil (log_at o i))) in
              let puts = puts_few in
              let few = accepted.few_messages in
              omega arith
          | inr past ↦
              let many = exec.ends in
              let last : end_at o i ≡ Finished = get_or_past o.ends i Finished (omega arith) in
              cc
        ]
