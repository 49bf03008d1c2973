use Rattle.std.proofs.Common.{map, ◌∙◌}
use Rattle.msc_chart.specs.Orders.{wired}
use Rattle.msc_gather.proofs.Endings.{has_all, some_missing}
use Rattle.msc_gather.proofs.Gathers.{least_gathers, stuck_has_none, no_logs_none}
use Rattle.msc_gather.proofs.gathering.gather.Goals as goal

pub marks_of-requires-clause-seated : goal.marks_of-requires-clause-seated
marks_of-requires-clause-seated c =
    let many = c.if-logs-instances.false ∙ c.instances.ensures.number in
    rw many (c.charts_are_seated.ensures c.args.queues c.args.chart.now c.facts.ensures)

pub returns-in_err-marks-clause-no_merge : goal.returns-in_err-marks-clause-no_merge
returns-in_err-marks-clause-no_merge c = λ same.
    let many = c.if-logs-instances.false ∙ c.instances.ensures.number in
    let seated = c.charts_are_seated.ensures c.args.queues c.args.chart.now c.facts.ensures in
    let given = rw same at c.from_residual.ensures.1 in
    no_logs_none (wired c.args.queues c.args.chart.now) _ (map (λ v. v.items) c.args.logs.now)
    seated
    (rw many at (c.in_err-marks.ensures.strange (cc)))

pub links_of-requires-clause-seated : goal.links_of-requires-clause-seated
links_of-requires-clause-seated c =
    let many = c.if-logs-instances.false ∙ c.instances.ensures.number in
    rw many (c.charts_are_seated.ensures c.args.queues c.args.chart.now c.facts.ensures)

pub merged-requires-clause-seated : goal.merged-requires-clause-seated
merged-requires-clause-seated c =
    let many = c.if-logs-instances.false ∙ c.instances.ensures.number in
    rw many (c.charts_are_seated.ensures c.args.queues c.args.chart.now c.facts.ensures)

pub returns-then-not-are_done-clause-no_merge : goal.returns-then-not-are_done-clause-no_merge
returns-then-not-are_done-clause-no_merge c = λ same.
    let seated = c.charts_are_seated.ensures c.args.queues c.args.chart.now c.facts.ensures in
    let some = rw (c.deref-3.ensures.value, c.deref-4.ensures.value) at
    (c.are_done.ensures.some c.if-not-are_done.true) in
    stuck_has_none (wired c.args.queues c.args.chart.now) _ (map (λ v. v.items) c.args.logs.now) _
    seated
    (some_missing c.in_ok-marks.ensures.marks c.in_ok-merge.ensures.merging some)
    c.in_ok-merge.ensures.end

pub returns-clause-run : goal.returns-clause-run
returns-clause-run c =
    let many = c.if-logs-instances.false ∙ c.instances.ensures.number in
    let seated = c.charts_are_seated.ensures c.args.queues c.args.chart.now c.facts.ensures in
    let all = rw (c.deref-3.ensures.value, c.deref-4.ensures.value) at
    (c.are_done.ensures.all c.if-not-are_done.false) in
    least_gathers (wired c.args.queues c.args.chart.now) _ (map (λ v. v.items) c.args.logs.now) _
    seated
    (rw many at c.in_ok-marks.ensures.logs) c.in_ok-merge.ensures.merging.steps
    (has_all c.in_ok-marks.ensures.marks c.in_ok-merge.ensures.merging all)
