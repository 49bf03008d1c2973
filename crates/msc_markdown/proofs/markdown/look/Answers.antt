use Rattle.std.proofs.Common.{◌+◌, drop, map, sym, ap, ◌∙◌}
use Rattle.msc_markdown.specs.Markdowns.{look}
use Rattle.msc_markdown.proofs.PassLemmas.{look_more, look_end}
use Rattle.msc_markdown.proofs.markdown.look.Goals as goal

pub loop-line-preserved : goal.loop-line-preserved
loop-line-preserved c =
    let l = c.loop-line in let lines = c.args.lines.now in
    ap (λ a. look a (map (λ x. x.now) (drop (l.line-index + 1) lines))) c.behind-ahead.ensures
    ∙ sym (look_more (λ x. x.now) lines l.line-index l.ahead _ c.loop-line-test.true) ∙ l.invariant

pub returns : goal.returns
returns c =
    let l = c.loop-line in
    sym (look_end (λ x. x.now) c.args.lines.now l.line-index l.ahead c.loop-line-test.false) ∙ l.invariant
