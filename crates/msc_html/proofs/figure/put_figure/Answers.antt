use Rattle.std.proofs.Common.{◌≡◌, Bool, false, cond, ◌++◌, codes, length, nat_eq, sym, subst, ap, ◌∙◌}
use Rattle.std.proofs.lemmas.Bool.{ne_eqb}
use Rattle.msc_html.specs.Figures.{caption_nodes, figure_node}
use Rattle.msc_tree.specs.Shapes.{plain}
use Rattle.msc_tree.specs.Trees.{line_text}
use Rattle.msc_html.proofs.figure.put_figure.Goals as goal

pub returns : goal.returns
returns c =
    let s = c.args.scene.now in
    let base = c.args.page.now.items in
    let next = c.put_some_figure.new.page.items in
    let figure = figure_node s c.args.label.now (caption_nodes c.args.caption.now) in
    let some : nat_eq (length s.heads) 0 ≡ false =
    ne_eqb (length s.heads) 0 (λ none. c.if-as_slice-eq0.false (ap length c.as_slice.ensures ∙ none)) in
    subst (λ (b : Bool). next ≡ base ++ line_text (cond b (plain (codes "p") (codes "It has no instances.")) figure))
    (sym some) c.in_ok-put_some_figure.ensures
