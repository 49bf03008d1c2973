use Rattle.std.proofs.Common.{sym, ap, ◌∙◌, drop, ◌+◌}
use Rattle.std.proofs.lemmas.List.{take_rest}
use Rattle.msc_mermaid.specs.Cutting.{leaves_open, open_step}
use Rattle.msc_mermaid.proofs.CuttingLemmas.{open_more, open_end}
use Rattle.msc_mermaid.proofs.cutting.leaves_open.Goals as goal

pub loop-i-preserved : goal.loop-i-preserved
loop-i-preserved c =
    let l = c.loop-i in let bytes = c.args.bytes.now in
    let next = c.open_step-open.ensures ∙ ap (open_step l.open) (take_rest bytes l.i) in
    ap (λ o. leaves_open o (drop (l.i + 1) bytes)) next ∙ sym (open_more bytes l.i l.open c.loop-i-test.true) ∙ l.invariant

pub returns : goal.returns
returns c =
    let l = c.loop-i in
    sym (open_end c.args.bytes.now l.i l.open c.loop-i-test.false) ∙ l.invariant
