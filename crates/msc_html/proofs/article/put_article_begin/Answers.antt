use Rattle.std.proofs.Common.{List, ℕ, ◌++◌, ap, codes, sym, ◌∙◌, append-nil}
use Rattle.msc_html.specs.Articles.{place_text}
use Rattle.msc_svg.proofs.Chains.{behind}
use Rattle.msc_tree.specs.Shapes.{valued}
use Rattle.msc_tree.specs.Trees.{attribute_text}
use Rattle.msc_html.proofs.article.put_article_begin.Goals as goal

pub returns : goal.returns
returns c =
    let base = c.args.page.now.items in
    let p = c.extend_from_slice.new.self.items in
    let q = c.put_place.new.page.items in
    let next = c.extend_from_slice-2.new.self.items in
    let place = attribute_text (valued (codes "id") (place_text c.args.k)) in
    behind base (codes "<article" ++ place) (codes ">\n") q next
    (behind base (codes "<article") place p q c.in_ok-extend_from_slice.ensures.items
    c.in_ok-put_place.ensures) c.in_ok-extend_from_slice-2.ensures.items
    ∙ ap (λ (l : List ℕ). base ++ ((codes "<article" ++ l) ++ codes ">\n")) (sym (append-nil place))
