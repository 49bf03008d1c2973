use Rattle.std.proofs.Common.{sym, ◌∙◌}
use Rattle.msc_chart.specs.Orders.{wired}
use Rattle.msc_follow.proofs.Shared.{clash, output_not_local}
use Rattle.msc_follow.proofs.Stepping.{ahead_is, ahead_not}
use Rattle.msc_follow.proofs.table.is_ahead.Goals as goal

pub returns-then-not-is_output : goal.returns-then-not-is_output
returns-then-not-is_output c =
    ahead_not (wired c.args.wiring.now.queues c.args.wiring.now.chart.now) c.args.x c.args.y (λ a. clash (c.is_output.ensures ∙ a.first) c.if-not-is_output.true)

pub returns-then-not-is_output-2 : goal.returns-then-not-is_output-2
returns-then-not-is_output-2 c =
    ahead_not (wired c.args.wiring.now.queues c.args.wiring.now.chart.now) c.args.x c.args.y (λ a. clash (c.is_output-2.ensures ∙ a.second) c.if-not-is_output-2.true)

pub queue-requires-clause-message : goal.queue-requires-clause-message
queue-requires-clause-message c = output_not_local c.args.wiring.now.chart.now.events c.args.x (sym c.is_output.ensures ∙ c.if-not-is_output.false)

pub queue-requires-2-clause-message : goal.queue-requires-2-clause-message
queue-requires-2-clause-message c = output_not_local c.args.wiring.now.chart.now.events c.args.y (sym c.is_output-2.ensures ∙ c.if-not-is_output-2.false)

pub returns-then-queue : goal.returns-then-queue
returns-then-queue c =
    ahead_not (wired c.args.wiring.now.queues c.args.wiring.now.chart.now) c.args.x c.args.y
    (λ a. c.if-queue.true (c.queue.ensures ∙ a.one_queue ∙ sym c.queue-2.ensures))

pub returns : goal.returns
returns c =
    let chart = wired c.args.wiring.now.queues c.args.wiring.now.chart.now in
    let inputs = rw (c.other_end.ensures.value, c.other_end-2.ensures.value) at c.before-2.ensures in
    ahead_is chart c.args.x c.args.y c.before-2.result (sym c.is_output.ensures ∙ c.if-not-is_output.false) (sym c.is_output-2.ensures ∙ c.if-not-is_output-2.false)
    (sym c.queue.ensures ∙ c.if-queue.false ∙ c.queue-2.ensures) inputs.0 inputs.1
