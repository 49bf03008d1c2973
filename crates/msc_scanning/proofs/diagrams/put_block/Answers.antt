use Rattle.std.proofs.Common.{Some, inr}
use Rattle.msc_answer.specs.Surveys.{numbered}
use Rattle.msc_scanning.proofs.Given.{told}
use Rattle.msc_scanning.specs.Diagrams.{PutsDiagram}
use Rattle.msc_scanning.proofs.diagrams.put_block.Goals as goal

pub returns : goal.returns
returns g c =
    let p = c.args.plan in let file = c.args.file.now in let text = c.args.found.now.text in let n = c.args.number in
    told g.O.Write.contents p (numbered file n) file text c.in-Err.refusal (PutsDiagram p c.args.words file text (Some n))
    (λ outcome printed so. inr (c.in-Err.refusal, c.in-Err.ensures, so))
    c.put_refusal.result c.args.output.now c.put_refusal.new.output
    (rw (c.origin_of-origin.ensures.label, c.origin_of-origin.ensures.file, c.origin_of-origin.ensures.text, c.text-text.ensures, c.as_slice-label.ensures.value, c.in_ok-label.ensures, c.as_bytes.ensures.value) at c.put_refusal.ensures)
