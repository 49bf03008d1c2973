use Rattle.std.proofs.Common.{arith, refl, ◌∙◌}
use Rattle.msc_chart.specs.Drawings.{output_of}
use Rattle.msc_chart.specs.Rounds.{message_in}
use Rattle.msc_chart.proofs.Readers.{output_in}
use Rattle.msc_chart.proofs.RoundParts.{same_message}
use Rattle.msc_chart.proofs.rounds.Rounds.message.Goals as goal

pub number-output-requires-clause-known : goal.number-output-requires-clause-known
number-output-requires-clause-known c =
    let known = output_in c.args.self.now.chart.now c.facts.ensures c.args.m c.requires.known in
    omega (arith, known, c.output_of.ensures)

pub returns : goal.returns
unfolding message_in output_of
returns c =
    same_message (c.in_ok-name.ensures ∙ c.message_name.ensures)
    (c.in_ok-number.ensures ∙ c.message_number.ensures)
    (rw (c.number-output.ensures.value, c.output_of.ensures) refl)
