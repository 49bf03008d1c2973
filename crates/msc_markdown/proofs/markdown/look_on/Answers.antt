use Rattle.std.proofs.Common.{◌+◌, drop, map, sym, ap, ◌∙◌}
use Rattle.msc_markdown.specs.Markdowns.{look}
use Rattle.msc_markdown.proofs.PassLemmas.{look_more, look_end}
use Rattle.msc_markdown.proofs.markdown.look_on.Goals as goal

pub loop-part-preserved : goal.loop-part-preserved
loop-part-preserved c =
    let l = c.loop-part in let parts = c.args.parts.now in
    ap (λ a. look a (map (λ p. p.bytes.now) (drop (l.part-index + 1) parts))) c.behind-ahead.ensures
    ∙ sym (look_more (λ p. p.bytes.now) parts l.part-index l.ahead _ c.loop-part-test.true) ∙ l.invariant

pub returns : goal.returns
returns c =
    let l = c.loop-part in
    sym (look_end (λ p. p.bytes.now) c.args.parts.now l.part-index l.ahead c.loop-part-test.false) ∙ l.invariant
