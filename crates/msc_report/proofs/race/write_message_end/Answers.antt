use Rattle.std.proofs.Common.{sym, ◌∙◌, inl, inr}
use Rattle.msc_chart.specs.Charts.{kind}
use Rattle.msc_chart.proofs.Drawn.{input_parts, output_or_input, output_parts}
use Rattle.msc_chart.proofs.ListLemmas.{clash}
use Rattle.msc_report.proofs.KindLemmas.{kind_sends, kind_takes}
use Rattle.msc_report.proofs.race.write_message_end.Goals as goal

pub returns-then-is_output : goal.returns-then-is_output
returns-then-is_output g c =
    let events = c.args.chart.now.events in
    let sent = output_parts events c.args.e (sym c.is_output.ensures ∙ c.if-is_output.true) in
    rw (kind_sends (kind events c.args.e) sent.1) c.write_signal.ensures

pub returns-else-is_output : goal.returns-else-is_output
returns-else-is_output g c =
    let events = c.args.chart.now.events in
    elim (output_or_input events c.args.e c.requires.known c.requires.message) [
      | inl o ↦ clash o (sym c.is_output.ensures ∙ c.if-is_output.false)
      | inr i ↦ rw (kind_takes (kind events c.args.e) (input_parts events c.args.e i).1) c.write_signal-else-is_output.ensures
    ]
