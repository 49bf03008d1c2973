use Rattle.std.proofs.Common.{ℕ, List, [], ◌++◌, codes, refl, sym, ap, ◌∙◌}
use Rattle.msc_html.proofs.Blocks.{put_block}
use Rattle.msc_html.proofs.Pictured.{picture_first}
use Rattle.msc_html.specs.Figures.{drawing_attributes}
use Rattle.msc_svg.proofs.Chains.{put_equal}
use Rattle.msc_svg.specs.declared.layout.Layout.{Layout}
use Rattle.msc_svg.specs.Elements.{picture_nodes}
use Rattle.msc_svg.specs.Layouts.{layout_of}
use Rattle.msc_tree.specs.Trees.{Node, children, line_text, lines_text, opened}
use Rattle.msc_tree.specs.Trees.Node.{block}
use Rattle.msc_html.proofs.figure.put_drawing.Goals as goal

pub returns : goal.returns
returns c =
    let s = c.args.scene.now in
    let label = c.args.label.now in
    let base = c.args.page.now.items in
    let p = c.put_drawing_begin.new.page.items in
    let q = c.put_picture.new.page.items in
    let next = c.extend_from_slice.new.self.items in
    let l = layout_of s [] in
    let attributes = drawing_attributes l label in
    let nodes = picture_nodes s l [] in
    let some = picture_first s l c.requires in
    let first = put_equal (λ (x : Layout) (t : List ℕ). opened (codes "svg") (drawing_attributes x t) ++ codes ">\n")
    base p c.in_ok-layout.layout l label label c.in_ok-put_drawing_begin.ensures
    c.in_ok-layout.ensures refl in
    let second = put_equal (λ (x : Layout) (h : List (List ℕ)). lines_text (picture_nodes s x h)) p q
    c.in_ok-layout.layout l [] [] c.in_ok-put_picture.ensures c.in_ok-layout.ensures refl in
    put_block base p q next (codes "svg") attributes some.first some.others first
    (second ∙ ap (λ (x : List Node). p ++ lines_text x) some.are)
    c.in_ok-extend_from_slice.ensures.items
    ∙ ap (λ (x : List Node). base ++ line_text (block (codes "svg") attributes (children x))) (sym some.are)
