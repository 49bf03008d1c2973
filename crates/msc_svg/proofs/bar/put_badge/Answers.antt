use Rattle.std.proofs.Common.{◌+◌, [], ◌∷◌, codes, length}
use Rattle.msc_svg.proofs.Chains.{as_lines, line_then}
use Rattle.msc_svg.specs.Elements.{count_rect}
use Rattle.msc_tree.specs.Shapes.{text_at}
use Rattle.msc_svg.proofs.bar.put_badge.Goals as goal

pub returns : goal.returns
returns c =
    let base = c.args.page.now.items in
    let now = c.put_count.new.page.items in
    let next = c.put_count_text.new.page.items in
    let t = c.args.text.now in
    let text = text_at (codes "badge") c.args.x (c.args.z + 1) t in
    line_then base now next (count_rect c.args.x c.args.z (length t)) (text ∷ [])
    c.in_ok-put_count.ensures (as_lines now next text c.in_ok-put_count_text.ensures)
