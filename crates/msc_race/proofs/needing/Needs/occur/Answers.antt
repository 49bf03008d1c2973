use Rattle.std.proofs.Common.{◌≡◌, ◌<◌, length, sym}
use Rattle.msc_chart.specs.Orders.{queue}
use Rattle.msc_race.specs.Choices.{wired_chart}
use Rattle.msc_race.proofs.Shared.{clash}
use Rattle.msc_race.proofs.Runs.EventLemmas.{output_not_local}
use Rattle.msc_race.proofs.Pasts.TurnLemmas.{nexts_fewer, told_again, told_still}
use Rattle.msc_race.proofs.needing.Needs.occur.Goals as goal

pub queue-requires-clause-message : goal.queue-requires-clause-message
queue-requires-clause-message c =
    output_not_local c.args.choice.now.wiring.chart.now.events c.args.x (c.is_taken.ensures.0 c.if-is_taken.true).0

pub returns-then-is_taken : goal.returns-then-is_taken
returns-then-is_taken c =
    let self = c.args.self.now in
    let choice = c.args.choice.now in
    let chart = wired_chart choice in
    let was = c.requires.told in
    let count = length self.spans.firsts.items in
    let here : queue chart c.args.x ≡ c.queue.result = sym c.queue.ensures in
    let known : c.queue.result < count = rw (← here) (was.told.holds.spans.queues c.args.x (c.is_taken.ensures.0 c.if-is_taken.true).0) in
    record {
      holds = c.turn.ensures.holds;
      nexts = c.turn.ensures.nexts;
      ready = rw c.turn.ensures.spans (told_again chart choice.e self.needed was.told.holds.needed c.args.left.now c.queue.result
          was.before c.args.x was.without count here known self.ready c.turn.new.self.ready was.told.ready c.turn.ensures.ready);
    }

pub returns-else-is_taken : goal.returns-else-is_taken
returns-else-is_taken c =
    let self = c.args.self.now in
    let choice = c.args.choice.now in
    let chart = wired_chart choice in
    let was = c.requires.told in
    record {
      holds = was.told.holds;
      nexts = nexts_fewer chart choice.e was.before c.args.left.now self.nexts.items c.args.x was.without was.told.nexts;
      ready = told_still chart choice.e self.needed was.told.holds.needed c.args.left.now 0 was.before c.args.x was.without
          (length self.spans.firsts.items) (λ taken. clash (c.is_taken.ensures.1 taken) c.if-is_taken.false) self.ready was.told.ready;
    }
