use Rattle.std.proofs.Common.{◌≤◌, take, drop, ◌∙◌, arith}
use Rattle.std.proofs.lemmas.List.{length-take-le}
use Rattle.std.proofs.lemmas.Result.{IfOk-weaker}
use Rattle.msc_place.proofs.LineLemmas.{excerpt_same}
use Rattle.msc_place.proofs.excerpting.excerpt.Goals as goal

pub returns : goal.returns
returns c =
    let text = c.args.text.now in let at = c.args.at in
    let s = c.line_start-start.result in
    let within = c.line_start-start.ensures.within in
    let le : s ≤ at = omega (arith, within, length-take-le at text c.requires) in
    let same = excerpt_same text s at c.line_end.result c.without_return-line.result.now c.columns.result le c.line_end.ensures.end c.without_return-line.ensures c.columns.ensures.count in
    IfOk-weaker c.marked.result _ _ (λ lines e. record {
      above = take s (take at text);
      start = drop s (take at text);
      cut = c.line_start-start.ensures.cut;
      lines_are = e ∙ same;
    }) c.marked.ensures
