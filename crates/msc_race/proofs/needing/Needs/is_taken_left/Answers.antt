use Rattle.msc_race.proofs.Runs.EventLemmas.{output_not_local}
use Rattle.msc_race.proofs.needing.Needs.is_taken_left.Goals as goal

pub queue-requires-clause-message : goal.queue-requires-clause-message
queue-requires-clause-message c =
    output_not_local c.args.choice.now.wiring.chart.now.events c.args.y (c.is_taken.ensures.0 c.if-not-is_taken.false).0
