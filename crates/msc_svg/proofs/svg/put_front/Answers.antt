use Rattle.std.proofs.Common.{[], ◌∷◌, ◌++◌, codes}
use Rattle.msc_svg.proofs.Chains.{behind, four_lines}
use Rattle.msc_svg.specs.Svg.{card, style, svg_attributes, tip}
use Rattle.msc_tree.specs.Shapes.{plain}
use Rattle.msc_tree.specs.Trees.{attributes_text, lines_text, opened}
use Rattle.msc_svg.proofs.svg.put_front.Goals as goal

pub returns : goal.returns
returns c =
    let l = c.args.layout.now in
    let base = c.args.page.now.items in
    let a = c.extend_from_slice.new.self.items in
    let b = c.put_svg_attributes.new.page.items in
    let d = c.extend_from_slice-2.new.self.items in
    let p = c.put_plain.new.page.items in
    let q = c.put_style.new.page.items in
    let r = c.put_tip.new.page.items in
    let next = c.put_card.new.page.items in
    let title = plain (codes "title") c.args.title.now in
    let looks = plain (codes "style") style in
    let begin = opened (codes "svg") (svg_attributes l) in
    let first = behind base (codes "<svg") (attributes_text (svg_attributes l)) a b
    c.in_ok-extend_from_slice.ensures.items c.in_ok-put_svg_attributes.ensures in
    let begun = behind base begin (codes ">\n") b d first c.in_ok-extend_from_slice-2.ensures.items in
    let lines = four_lines d p q r next title looks tip (card l) c.in_ok-put_plain.ensures
    c.in_ok-put_style.ensures c.in_ok-put_tip.ensures c.in_ok-put_card.ensures in
    behind base (begin ++ codes ">\n") (lines_text (title ∷ looks ∷ tip ∷ card l ∷ [])) d next begun lines
