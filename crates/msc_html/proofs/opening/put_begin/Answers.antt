use Rattle.std.proofs.Common.{[], ◌∷◌, codes}
use Rattle.msc_html.specs.declared.part.SentenceStyle.TheVariants.{Soft}
use Rattle.msc_html.specs.Parts.{sentence, words}
use Rattle.msc_html.specs.Reports.{checked_text}
use Rattle.msc_svg.proofs.Chains.{as_lines, line_then}
use Rattle.msc_tree.specs.Shapes.{plain}
use Rattle.msc_html.proofs.opening.put_begin.Goals as goal

pub returns : goal.returns
returns c =
    let p = c.put_plain.new.page.items in
    let next = c.put_checked.new.page.items in
    let checked = sentence (codes "p") Soft (words (checked_text c.args.enforced.now.chart c.args.enforced.now.queues) ∷ []) in
    line_then c.args.page.now.items p next (plain (codes "h1") c.args.name.now) (checked ∷ [])
    c.in_ok-put_plain.ensures (as_lines p next checked c.in_ok-put_checked.ensures)
