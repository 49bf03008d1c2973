use Rattle.std.proofs.Common.{◌++◌, map, sym, ap, ◌∙◌}
use Rattle.msc_import.specs.Numbering.{numbers_from}
use Rattle.msc_import.proofs.NumberLemmas.{lines_more}
use Rattle.msc_import.proofs.numbering.numbers_on_lines.Goals as goal

pub loop-line-preserved : goal.loop-line-preserved
loop-line-preserved c =
    let l = c.loop-line in
    let arrows = map (λ m. m.now) c.args.arrows.now in
    c.in_ok-put_line.ensures
    ∙ ap (λ x. x ++ numbers_from c.args.own l.line 0 arrows) l.invariant
    ∙ sym (lines_more c.args.own arrows l.line)
