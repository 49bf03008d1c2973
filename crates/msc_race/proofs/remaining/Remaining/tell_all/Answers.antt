use Rattle.std.proofs.Common.{sym, ◌∙◌}
use Rattle.msc_chart.specs.Witness.{IsFree, IsHeld}
use Rattle.msc_order.specs.Tables.{orders}
use Rattle.msc_race.specs.Choices.{event_count, wired_chart}
use Rattle.msc_race.specs.Remainders.{IsPassedOnWith}
use Rattle.msc_race.proofs.Runs.EventLemmas.{controlled_no_input, input_from_rest, input_not_local}
use Rattle.msc_race.proofs.Runs.FreeFirst.{held_queue}
use Rattle.msc_race.proofs.Runs.FreeRuns.{test_of_held}
use Rattle.msc_race.proofs.Making.RemainderLemmas.{below_none, others_none}
use Rattle.msc_race.proofs.remaining.Remaining.tell_all.Goals as goal

pub returns-then-is_controlled-clause-told : goal.returns-then-is_controlled-clause-told
returns-then-is_controlled-clause-told c =
    let choice = c.args.choice.now in
    let chart = wired_chart choice in
    let settled = c.requires.settled in
    let told = c.requires.told in
    let is_wired = c.ends_share_queues.ensures choice.wiring.queues choice.wiring.chart.now settled.accepted in
    let no_input = controlled_no_input chart.events choice.e (sym c.is_controlled.ensures ∙ c.if-is_controlled.true) in
    let table = orders choice.order.now in
    record {
      free = told.free;
      unheld = others_none _ (IsFree chart choice.e) (IsHeld chart choice.e) 0 (event_count choice) told.unheld (λ y held.
          no_input (held_queue chart is_wired table settled.enforced choice.e settled.known y
          (test_of_held chart table settled.enforced choice.e settled.known y held)).0);
      passed = below_none _ (IsPassedOnWith chart choice.e) 0 (event_count choice) told.passed (λ y p. no_input p.1);
    }

pub queue-q-requires-clause-message : goal.queue-q-requires-clause-message
queue-q-requires-clause-message c =
    let choice = c.args.choice.now in
    let events = choice.wiring.chart.now.events in
    input_not_local events choice.e (input_from_rest events choice.e c.requires.settled.known (sym c.is_controlled.ensures ∙ c.if-is_controlled.false))

pub tell-requires-clause-input : goal.tell-requires-clause-input
tell-requires-clause-input c =
    let choice = c.args.choice.now in
    input_from_rest choice.wiring.chart.now.events choice.e c.requires.settled.known (sym c.is_controlled.ensures ∙ c.if-is_controlled.false)
