use Rattle.std.proofs.Common.{sym, ◌∙◌}
use Rattle.msc_race.proofs.Runs.EventLemmas.{output_not_local}
use Rattle.msc_race.proofs.choosing.Choice.is_free_with.Goals as goal

pub queue-requires-clause-message : goal.queue-requires-clause-message
queue-requires-clause-message c =
    output_not_local c.args.self.now.wiring.chart.now.events c.args.x (sym c.is_output.ensures ∙ c.if-not-is_output.false)

pub returns-then-queue-q : goal.returns-then-queue-q
returns-then-queue-q c =
    let output = sym c.is_output.ensures ∙ c.if-not-is_output.false in
    let same = sym c.queue.ensures ∙ c.if-queue-q.true ∙ c.requires.queue in
    (λ h. (output, c.is_free.ensures.0 h, c.requires.input, same), λ p. c.is_free.ensures.1 p.1)
