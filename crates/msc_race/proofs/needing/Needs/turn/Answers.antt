use Rattle.std.proofs.Common.{◌∙◌}
use Rattle.msc_race.specs.Choices.{wired_chart}
use Rattle.msc_race.proofs.Pasts.TurnLemmas.{none_of_next, turned_none}
use Rattle.msc_race.proofs.needing.Needs.turn.Goals as goal

pub returns-then-next-events-clause-ready : goal.returns-then-next-events-clause-ready
returns-then-next-events-clause-ready c =
    let choice = c.args.choice.now in
    let none = none_of_next (wired_chart choice) choice.e c.args.left.now c.args.q _ c.next_taken-next.ensures (c.if-next-events.true ∙ c.events.ensures.number) in
    turned_none (wired_chart choice) choice.e c.args.left.now c.args.self.now.ready c.release.new.self.ready c.args.q none c.release.ensures.ready
