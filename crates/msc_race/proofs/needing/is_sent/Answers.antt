use Rattle.std.proofs.Common.{sym, ◌∙◌}
use Rattle.msc_race.proofs.Runs.EventLemmas.{output_not_local}
use Rattle.msc_race.proofs.needing.is_sent.Goals as goal

pub queue-requires-clause-message : goal.queue-requires-clause-message
queue-requires-clause-message c =
    output_not_local c.args.choice.now.wiring.chart.now.events c.args.x (sym c.is_output.ensures ∙ c.if-not-is_output.false)
