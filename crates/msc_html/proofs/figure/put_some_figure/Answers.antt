use Rattle.std.proofs.Common.{[], ◌∷◌, codes}
use Rattle.msc_html.proofs.Blocks.{put_block}
use Rattle.msc_html.specs.Figures.{caption_nodes, drawing_node}
use Rattle.msc_svg.proofs.Chains.{line_then}
use Rattle.msc_tree.specs.Shapes.{valued}
use Rattle.msc_html.proofs.figure.put_some_figure.Goals as goal

pub returns : goal.returns
returns c =
    let p = c.extend_from_slice.new.self.items in
    let r = c.put_drawing.new.page.items in
    let q = c.put_caption.new.page.items in
    let drawing = drawing_node c.args.scene.now c.args.label.now in
    let below = caption_nodes c.args.caption.now in
    put_block c.args.page.now.items p q c.extend_from_slice-2.new.self.items (codes "figure")
    (valued (codes "tabindex") (codes "0") ∷ []) drawing below c.in_ok-extend_from_slice.ensures.items
    (line_then p r q drawing below c.in_ok-put_drawing.ensures c.in_ok-put_caption.ensures)
    c.in_ok-extend_from_slice-2.ensures.items
