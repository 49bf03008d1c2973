use Rattle.std.proofs.Common.{inr}
use Rattle.msc_answer.specs.declared.ending.Refusal.TheVariants as refusals
use Rattle.msc_report.specs.Refusals.{of_source}
use Rattle.msc_scanning.proofs.Given.{told}
use Rattle.msc_scanning.specs.Charts.{PutsChart}
use Rattle.msc_scanning.proofs.charts.put_chart.Goals as goal

pub returns-in-Err : goal.returns-in-Err
returns-in-Err g c =
    let p = c.args.plan in let file = c.args.file.now in let text = c.args.text.now in
    told g.O.Write.contents p file file text (refusals.Fault (of_source c.in-Err.fault)) (PutsChart p file text)
    (λ outcome printed so. inr (c.in-Err.fault, c.in-Err.ensures, so))
    c.put_refusal.result c.args.output.now c.put_refusal.new.output
    (rw (c.origin_of.ensures.label, c.origin_of.ensures.file, c.origin_of.ensures.text, c.into.ensures) at c.put_refusal.ensures)
