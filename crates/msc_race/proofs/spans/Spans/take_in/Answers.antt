use Rattle.std.proofs.Common.{sym, ◌∙◌}
use Rattle.msc_race.proofs.Runs.EventLemmas.{output_not_local}
use Rattle.msc_race.proofs.spans.Spans.take_in.Goals as goal

pub queue-q-requires-clause-message : goal.queue-q-requires-clause-message
queue-q-requires-clause-message c =
    output_not_local c.args.choice.now.wiring.chart.now.events c.args.x (sym c.is_output.ensures ∙ c.if-not-is_output.false)
