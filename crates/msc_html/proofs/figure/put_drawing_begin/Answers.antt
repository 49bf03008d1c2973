use Rattle.std.proofs.Common.{List, ℕ, ◌++◌, ap, codes, ◌∙◌}
use Rattle.msc_html.proofs.Bytes.{attributes_then}
use Rattle.msc_svg.proofs.Chains.{behind}
use Rattle.msc_svg.specs.Svg.{size_attributes}
use Rattle.msc_tree.specs.Shapes.{valued}
use Rattle.msc_tree.specs.Trees.{Attribute, attribute_text, attributes_text}
use Rattle.msc_html.proofs.figure.put_drawing_begin.Goals as goal

pub returns : goal.returns
returns c =
    let base = c.args.page.now.items in
    let a = c.extend_from_slice.new.self.items in
    let b = c.put_size.new.page.items in
    let d = c.extend_from_slice-2.new.self.items in
    let e = c.put_attribute.new.page.items in
    let next = c.extend_from_slice-3.new.self.items in
    let size = size_attributes c.args.layout.now in
    let role : Attribute = valued (codes "role") (codes "img") in
    let label : Attribute = valued (codes "aria-label") c.args.label.now in
    behind base (((codes "<svg" ++ attributes_text size) ++ attribute_text role) ++ attribute_text label)
    (codes ">\n") e next
    (behind base ((codes "<svg" ++ attributes_text size) ++ attribute_text role) (attribute_text label) d e
    (behind base (codes "<svg" ++ attributes_text size) (attribute_text role) b d
    (behind base (codes "<svg") (attributes_text size) a b c.in_ok-extend_from_slice.ensures.items
    c.in_ok-put_size.ensures) c.in_ok-extend_from_slice-2.ensures.items)
    c.in_ok-put_attribute.ensures) c.in_ok-extend_from_slice-3.ensures.items
    ∙ ap (λ (l : List ℕ). base ++ (l ++ codes ">\n")) (attributes_then (codes "<svg") size role label)
