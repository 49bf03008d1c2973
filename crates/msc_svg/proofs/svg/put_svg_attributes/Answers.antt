use Rattle.std.proofs.Common.{List, ℕ, ◌++◌, ap, codes, [], ◌∷◌, ◌∙◌, append_assoc, sym}
use Rattle.std.proofs.lemmas.Grind.{flat_map-append}
use Rattle.msc_svg.proofs.Chains.{behind}
use Rattle.msc_svg.specs.Svg.{size_attributes}
use Rattle.msc_tree.specs.Shapes.{valued}
use Rattle.msc_tree.specs.Trees.{Attribute, attribute_text, attributes_text}
use Rattle.msc_svg.proofs.svg.put_svg_attributes.Goals as goal

pub returns : goal.returns
returns c =
    let l = c.args.layout.now in
    let base = c.args.page.now.items in
    let p = c.extend_from_slice.new.self.items in
    let q = c.put_size.new.page.items in
    let next = c.extend_from_slice-2.new.self.items in
    let name = attribute_text (valued (codes "xmlns") (codes "http://www.w3.org/2000/svg")) in
    let size = attributes_text (size_attributes l) in
    let role : Attribute = valued (codes "role") (codes "img") in
    let all = behind base (name ++ size) (attributes_text (role ∷ [])) q next
    (behind base name size p q c.in_ok-extend_from_slice.ensures.items c.in_ok-put_size.ensures)
    c.in_ok-extend_from_slice-2.ensures.items in
    all
    ∙ ap (λ (t : List ℕ). base ++ t) (append_assoc name size (attributes_text (role ∷ []))
    ∙ ap (λ (t : List ℕ). name ++ t) (sym (flat_map-append attribute_text (size_attributes l) (role ∷ []))))
