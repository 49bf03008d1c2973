use Rattle.std.proofs.Common.{List, ℕ, ◌++◌, [], ◌∷◌, codes, ap, ◌∙◌}
use Rattle.msc_svg.proofs.Chains.{behind, put_equal}
use Rattle.msc_svg.specs.declared.layout.Layout.{Layout}
use Rattle.msc_svg.specs.Elements.{picture_nodes}
use Rattle.msc_svg.specs.Layouts.{layout_of}
use Rattle.msc_svg.specs.Svg.{card, front_text, heading_of, style, svg_attributes, tip, title_of}
use Rattle.msc_tree.specs.Shapes.{plain}
use Rattle.msc_tree.specs.Trees.{lines_text}
use Rattle.msc_svg.proofs.svg.put_svg.Goals as goal

pub returns : goal.returns
returns c =
    let s = c.args.scene.now in
    let more = c.args.more.now in
    let base = c.args.page.now.items in
    let p = c.put_front.new.page.items in
    let q = c.put_picture.new.page.items in
    let next = c.extend_from_slice.new.self.items in
    let above = heading_of s.name more in
    let l = layout_of s above in
    let title = title_of s.name more in
    let named = c.as_slice-name.ensures in
    let heads = c.in_ok-heading.ensures ∙ ap (λ (n : List ℕ). heading_of n more) named in
    let laid = c.in_ok-layout.ensures
    ∙ ap (layout_of s) (c.as_slice.ensures.value ∙ heads) in
    let called = c.as_slice-2.ensures.value ∙ c.in_ok-title_of.ensures
    ∙ ap (λ (n : List ℕ). title_of n more) named in
    let front = front_text l title in
    let back = picture_nodes s l above in
    let first = put_equal front_text base p c.in_ok-layout.layout l c.as_slice-2.result.now title
    c.in_ok-put_front.ensures laid called in
    let second = put_equal
    (λ (x : Layout) (h : List (List ℕ)). lines_text (picture_nodes s x h)) p q c.in_ok-layout.layout l
    c.as_slice-3.result.now above c.in_ok-put_picture.ensures laid
    (c.as_slice-3.ensures.value ∙ heads) in
    let all = behind base (front ++ lines_text back) (codes "</svg>\n") q next
    (behind base front (lines_text back) p q first second) c.in_ok-extend_from_slice.ensures.items in
    all ∙ ap (λ (t : List ℕ). base ++ t)
    (c.blocks_have_a_line_for_each_child.ensures.parts (codes "svg") (svg_attributes l)
    (plain (codes "title") title) (plain (codes "style") style ∷ tip ∷ card l ∷ []) back)
