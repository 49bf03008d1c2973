use Rattle.std.proofs.Common.{◌≡◌, ℕ, ◌<◌, Bool, List, [], ◌∷◌, ◌++◌, length, get_or, ap, sym, ◌∙◌, subst, arith, set}
use Rattle.msc_chart.specs.Charts.{line}
use Rattle.msc_chart.specs.Drawings.{IsAccepted}
use Rattle.msc_chart.specs.Orders.{queue_bound}
use Rattle.msc_chart.specs.Runs.{state}
use Rattle.msc_race.proofs.Making.LinkLemmas.{any_default}
use Rattle.msc_race.proofs.Runs.RunEvents.{run_events}
use Rattle.msc_ready.specs.Held.{ReadyChart, wiring_of, ready_in}
use Rattle.msc_ready.specs.Readiness.{MayComeReady}
use Rattle.msc_ready.specs.Beginnings.{HasMarks, HasFronts, HasHeads, IsHead, IsNextFront}
use Rattle.msc_ready.proofs.Shared.{Steps-push}
use Rattle.msc_ready.proofs.Runs.Keeping.{run_of_ready}
use Rattle.msc_ready.proofs.Begun.Marks.{marked_after}
use Rattle.msc_ready.proofs.Begun.Fronts.{fronts_after}
use Rattle.msc_ready.proofs.Begun.Heads.{heads_after, heads_passed}
use Rattle.msc_ready.proofs.beginning.Beginning.occur.Goals as goal

-- the next front, of the front that is held
front_of : (r : ReadyChart) (run fronts : List ℕ) (done : List Bool) (x i f g : ℕ) → IsAccepted r.chart → x < length r.chart.events → HasFronts r.chart run fronts
    → HasMarks (length r.chart.events) (run ++ x ∷ []) done → i ≡ line r.chart.events x → f ≡ get_or fronts i f
    → IsNextFront r.chart.events done i f g → HasFronts r.chart (run ++ x ∷ []) (set fronts i g)
front_of r run fronts done x i f g accepted below held marks same read next =
    let on = accepted.on_lines.on_line x below in
    let each = held.each in
    let at : f ≡ get_or fronts (line r.chart.events x) 0 = read ∙ any_default fronts i f 0 (omega (arith, each, on, same)) ∙ ap (λ (k : ℕ). get_or fronts k 0) same in
    let here = subst (λ (k : ℕ). IsNextFront r.chart.events done (line r.chart.events x) k g) at (subst (λ (k : ℕ). IsNextFront r.chart.events done k f g) same next) in
    subst (λ (k : ℕ). HasFronts r.chart (run ++ x ∷ []) (set fronts k g)) (sym same)
    (fronts_after r.chart accepted.in_text_order run fronts done x g below on marks held here)

pub first_waiting-head-requires-clause-events : goal.first_waiting-head-requires-clause-events
first_waiting-head-requires-clause-events c =
    let r = c.args.ready.now in
    let run = Steps-push (MayComeReady (wiring_of r) (ready_in r)) c.args.self.now.run.items c.args.x c.requires.held.is_run c.requires.next in
    rw (c.deref-then-not-is_local.ensures.value, c.in_ok-push.ensures.items) (run_events (wiring_of r) _ (run_of_ready (wiring_of r) (ready_in r) [] _ run))

pub first_waiting-head-requires-clause-marks : goal.first_waiting-head-requires-clause-marks
first_waiting-head-requires-clause-marks c =
    let self = c.args.self.now in
    rw (c.deref-then-not-is_local.ensures.value, c.deref-then-not-is_local-2.ensures.value, c.in_ok-push.ensures.items)
    (marked_after (length c.args.ready.now.chart.events) self.run.items self.done.items c.args.x c.requires.next.may.event c.requires.held.marks)

pub returns-then-not-is_local-clause-held : goal.returns-then-not-is_local-clause-held
returns-then-not-is_local-clause-held c =
    let r = c.args.ready.now in
    let d = r.chart in
    let self = c.args.self.now in
    let chart = wiring_of r in
    let held = c.requires.held in
    let x : ℕ = c.args.x in
    let below = c.requires.next.may.event in
    let marks = marked_after (length d.events) self.run.items self.done.items x below held.marks in
    let line_is = rw c.chart-chart.ensures at c.instance_of-i.ensures in
    let next = rw c.deref.ensures.value at c.next_front-front.ensures in
    let away = rw c.chart-chart.ensures at (sym c.is_local.ensures ∙ c.if-not-is_local.true) in
    let at = c.queue-q.ensures in
    let is_wired = c.ends_share_queues.ensures r.queues d c.facts.ensures.chart in
    let inside = c.queue_numbers_are_bounded.ensures.numbers r.queues d x c.facts.ensures.chart below away in
    let is_run = run_of_ready chart (ready_in r) [] self.run.items held.is_run in
    let head = rw (c.deref-then-not-is_local.ensures.value, c.in_ok-push.ensures.items) at c.first_waiting-head.ensures in
    rw c.in_ok-push.ensures.items (record {
      is_run = Steps-push (MayComeReady chart (ready_in r)) self.run.items x held.is_run c.requires.next;
      marks = marks;
      lines = front_of r self.run.items self.fronts.items _ x c.instance_of-i.result c.index.result.now c.next_front-front.result c.facts.ensures.chart below held.lines marks line_is c.index.ensures next;
      queues = subst (λ (k : ℕ). HasHeads chart (queue_bound r.queues d) (self.run.items ++ x ∷ []) (set self.heads.items k c.first_waiting-head.result)) (sym at)
          (heads_after chart is_wired self.run.items x is_run c.requires.next.may (queue_bound r.queues d) self.heads.items c.first_waiting-head.result away inside held.queues
          (subst (λ (k : ℕ). IsHead (length d.events) (state chart k (self.run.items ++ x ∷ [])) c.first_waiting-head.result) at head));
    })

pub returns-else-not-is_local-clause-held : goal.returns-else-not-is_local-clause-held
returns-else-not-is_local-clause-held c =
    let r = c.args.ready.now in
    let d = r.chart in
    let self = c.args.self.now in
    let chart = wiring_of r in
    let held = c.requires.held in
    let x : ℕ = c.args.x in
    let below = c.requires.next.may.event in
    let marks = marked_after (length d.events) self.run.items self.done.items x below held.marks in
    let line_is = rw c.chart-chart.ensures at c.instance_of-i.ensures in
    let next = rw c.deref.ensures.value at c.next_front-front.ensures in
    let own = rw c.chart-chart.ensures at (sym c.is_local.ensures ∙ c.if-not-is_local.false) in
    let is_wired = c.ends_share_queues.ensures r.queues d c.facts.ensures.chart in
    let is_run = run_of_ready chart (ready_in r) [] self.run.items held.is_run in
    rw c.in_ok-push.ensures.items (record {
      is_run = Steps-push (MayComeReady chart (ready_in r)) self.run.items x held.is_run c.requires.next;
      marks = marks;
      lines = front_of r self.run.items self.fronts.items _ x c.instance_of-i.result c.index.result.now c.next_front-front.result c.facts.ensures.chart below held.lines marks line_is c.index.ensures next;
      queues = heads_passed chart is_wired self.run.items x is_run c.requires.next.may (queue_bound r.queues d) self.heads.items own held.queues;
    })
