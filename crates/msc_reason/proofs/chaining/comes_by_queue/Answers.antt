use Rattle.std.proofs.Common.{refl, sym, ◌∙◌}
use Rattle.msc_chart.specs.Charts.{partner}
use Rattle.msc_race.specs.Views.{wiring_of}
use Rattle.msc_chart.proofs.Drawn.{controlled_no_input, input_not_local, input_parts, output_controlled, partner_of_input}
use Rattle.msc_chart.proofs.KindTests.{input_from_rest}
use Rattle.msc_chart.proofs.ListLemmas.{clash}
use Rattle.msc_order.proofs.Once.{caused_enforced}
use Rattle.msc_reason.proofs.Walking.{controlled_caused}
use Rattle.msc_reason.proofs.chaining.comes_by_queue.Goals as goal

pub returns-then-is_controlled : goal.returns-then-is_controlled
returns-then-is_controlled c =
    let told = rw c.wiring-wiring.ensures.chart at c.is_controlled.ensures in (
      λ no. clash no refl,
      λ order. absurd (controlled_no_input c.args.enforced.now.chart.events c.args.u (sym told ∙ c.if-is_controlled.true) order.second),
    )

pub returns-then-queue : goal.returns-then-queue
returns-then-queue c =
    let one = rw (c.wiring-wiring.ensures.chart, c.wiring-wiring.ensures.queues) at c.queue.ensures in
    let other = rw (c.wiring-wiring.ensures.chart, c.wiring-wiring.ensures.queues) at c.queue-2.ensures in (
      λ no. clash no refl,
      λ order. absurd (c.if-queue.true (one ∙ order.one_queue ∙ sym other)),
    )

pub queue-requires-clause-known : goal.queue-requires-clause-known
queue-requires-clause-known c = rw c.wiring-wiring.ensures.chart (input_parts c.args.enforced.now.chart.events c.args.e c.requires.input).0

pub queue-requires-clause-message : goal.queue-requires-clause-message
queue-requires-clause-message c = rw c.wiring-wiring.ensures.chart (input_not_local c.args.enforced.now.chart.events c.args.e c.requires.input)

pub queue-requires-2-clause-message : goal.queue-requires-2-clause-message
queue-requires-2-clause-message c =
    let events = c.args.enforced.now.chart.events in
    let told = rw c.wiring-wiring.ensures.chart at c.is_controlled.ensures in
    rw c.wiring-wiring.ensures.chart (input_not_local events c.args.u (input_from_rest events c.args.u c.requires.u_known (sym told ∙ c.if-is_controlled.false)))

pub other_end-requires : goal.other_end-requires
other_end-requires c = rw c.wiring-wiring.ensures.chart (input_parts c.args.enforced.now.chart.events c.args.e c.requires.input).0

pub returns : goal.returns
returns c =
    let chart = wiring_of c.args.enforced.now in
    let events = c.args.enforced.now.chart.events in
    let is_wired = c.ends_share_queues.ensures c.args.enforced.now.queues c.args.enforced.now.chart c.facts.ensures.chart in
    let told = rw c.wiring-wiring.ensures.chart at c.is_controlled.ensures in
    let one = rw (c.wiring-wiring.ensures.chart, c.wiring-wiring.ensures.queues) at c.queue.ensures in
    let other = rw (c.wiring-wiring.ensures.chart, c.wiring-wiring.ensures.queues) at c.queue-2.ensures in
    let held = rw (c.other_end.ensures.value, c.other_end-2.ensures.value, c.wiring-wiring.ensures.chart) at c.holds.ensures.exact in
    let sends = output_controlled events (partner events c.args.e) (partner_of_input events is_wired.matched c.args.e c.requires.input) in (
      λ holds. record {
        first = c.requires.input;
        second = input_from_rest events c.args.u c.requires.u_known (sym told ∙ c.if-is_controlled.false);
        one_queue = sym one ∙ c.if-queue.false ∙ other;
        outputs = controlled_caused chart is_wired (partner events c.args.e) (partner events c.args.u) sends (held.0 holds);
      },
      λ order. held.1 (caused_enforced chart _ _ order.outputs),
    )
