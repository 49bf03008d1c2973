use Rattle.std.proofs.Common.{◌<◌, List, ℕ, ◌++◌, codes, length, ap, ◌∙◌, arith}
use Rattle.msc_svg.proofs.Chains.{behind}
use Rattle.msc_html.proofs.Bytes.{some_sentence}
use Rattle.msc_html.specs.Parts.{style_attributes, parts_text}
use Rattle.msc_tree.specs.Trees.{attributes_text}
use Rattle.msc_html.proofs.part.put_sentence.Goals as goal

pub returns : goal.returns
returns c =
    let base = c.args.page.now.items in
    let name = c.args.name.now in
    let style = c.args.style in
    let parts = c.args.parts.now in
    let begin = (codes "<" ++ name) ++ attributes_text (style_attributes style) in
    let held = (((codes ">" ++ parts_text parts) ++ codes "</") ++ name) ++ codes ">\n" in
    let some : 0 < length parts = omega arith in
    behind base begin held c.put_begin.new.page.items c.put_held.new.page.items
    c.in_ok-put_begin.ensures c.in_ok-put_held.ensures
    ∙ ap (λ (l : List ℕ). base ++ l) (some_sentence name style parts some)
