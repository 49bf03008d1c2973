use Rattle.std.proofs.Common.{ap, ◌∙◌}
use Rattle.std.proofs.lemmas.Iterator.Consumers.{map_from_collect}
use Rattle.std.proofs.lemmas.Iterator.Splits.{YieldsList-from_lines}
use Rattle.std.proofs.lemmas.Result.{IfOk-weaker}
use Rattle.std.specs.Str.Lines.{lines}
use Rattle.msc_findings.proofs.RowLemmas.{no_rows, rows_of_text}
use Rattle.msc_findings.proofs.run.rows_in.Goals as goal

pub returns-in-Ok : goal.returns-in-Ok
returns-in-Ok c =
    let text = c.in-Ok.ensures.cases in
    IfOk-weaker c.collect.result _ _ (λ rows is. is ∙ ap lines text.0 ∙ rows_of_text c.args.bytes.now text.1)
    (map_from_collect _ c.collect.ensures.ran (YieldsList-from_lines c.in-Ok.text.now c.lines.ensures.rest))

pub returns-in-Err : goal.returns-in-Err
returns-in-Err c = rw c.new.ensures.items (no_rows c.args.bytes.now c.in-Err.ensures.cases.0)
