use Rattle.std.proofs.Common.{Bool, subst}
use Rattle.msc_execution.specs.Executions.{IsExecution}
use Rattle.msc_instance.specs.Views.{outcome_of}
use Rattle.msc_instance.specs.Threads.{rule}
use Rattle.msc_instance.proofs.Asked.{all_let}
use Rattle.msc_instance.proofs.Runs.{runs_from_fresh}
use Rattle.msc_instance.proofs.Returned.{hold}
use Rattle.msc_instance.proofs.execution.run_chart.Goals as goal

pub settle_all-requires : goal.settle_all-requires
settle_all-requires g c =
    let runs = runs_from_fresh c.args.chart.now (rule g.G.Gate.is_open (g.G.Gate.lets c.args.gate.now)) c.args.patience c.args.queues c.in_ok-jobs.jobs.items c.in-Ok.ran.items
    c.in_ok-jobs.ensures c.in-Ok.ensures.runs in
    hold c.runs_hold_queues.ensures c.args.queues c.args.chart.now g.G.Gate.is_open c.args.patience _ _ c.facts.ensures c.in_ok-jobs.ensures.wiring runs

pub returns-in_ok-settle_all-in-Ok-clause-execution : goal.returns-in_ok-settle_all-in-Ok-clause-execution
returns-in_ok-settle_all-in-Ok-clause-execution g c =
    let runs = runs_from_fresh c.args.chart.now (rule g.G.Gate.is_open (g.G.Gate.lets c.args.gate.now)) c.args.patience c.args.queues c.in_ok-jobs.jobs.items c.in-Ok.ran.items
    c.in_ok-jobs.ensures c.in-Ok.ensures.runs in
    let back = c.in_ok-settle_all-in-Ok.ensures in
    c.settled_runs_are_executions.ensures c.args.queues c.args.chart.now g.G.Gate.is_open c.args.patience _ _
    (outcome_of c.in_ok-settle_all-in-Ok.field-0) c.facts.ensures c.in_ok-jobs.ensures.wiring runs back.logs back.ends back.settled

pub returns-in_ok-settle_all-in-Ok-clause-finished : goal.returns-in_ok-settle_all-in-Ok-clause-finished
returns-in_ok-settle_all-in-Ok-clause-finished g c finished =
    c.finished_executions_leave_nothing.ensures c.args.queues c.args.chart.now g.G.Gate.is_open c.args.patience
    (outcome_of c.in_ok-settle_all-in-Ok.field-0) c.facts.ensures (returns-in_ok-settle_all-in-Ok-clause-execution g c) finished

pub returns-in_ok-settle_all-in-Ok-clause-open : goal.returns-in_ok-settle_all-in-Ok-clause-open
returns-in_ok-settle_all-in-Ok-clause-open g c is_open i =
    c.no_clock_is_spent.ensures.stopped c.args.queues c.args.chart.now c.args.patience
    (outcome_of c.in_ok-settle_all-in-Ok.field-0) c.facts.ensures
    (subst (λ (b : Bool). IsExecution c.args.queues c.args.chart.now b c.args.patience (outcome_of c.in_ok-settle_all-in-Ok.field-0)) is_open
    (returns-in_ok-settle_all-in-Ok-clause-execution g c)) i

pub returns-in_ok-settle_all-in-Ok-clause-asked : goal.returns-in_ok-settle_all-in-Ok-clause-asked
returns-in_ok-settle_all-in-Ok-clause-asked g c =
    let back = c.in_ok-settle_all-in-Ok.ensures in
    all_let c.args.chart.now (rule g.G.Gate.is_open (g.G.Gate.lets c.args.gate.now)) c.args.patience c.args.queues
    c.in_ok-jobs.jobs.items c.in-Ok.ran.items c.in_ok-jobs.ensures c.in-Ok.ensures.runs _ _ back.logs back.ends
