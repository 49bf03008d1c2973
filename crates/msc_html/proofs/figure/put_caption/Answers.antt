use Rattle.std.proofs.Common.{◌≡◌, Bool, false, cond, [], ◌∷◌, ◌++◌, codes, length, nat_eq, sym, subst}
use Rattle.std.proofs.lemmas.Bool.{ne_eqb}
use Rattle.msc_svg.proofs.Chains.{as_lines}
use Rattle.msc_tree.specs.Shapes.{plain}
use Rattle.msc_tree.specs.Trees.{lines_text}
use Rattle.msc_html.proofs.figure.put_caption.Goals as goal

pub returns : goal.returns
returns c =
    let base = c.args.page.now.items in
    let next = c.put_plain.new.page.items in
    let caption = plain (codes "figcaption") c.args.text.now in
    let some : nat_eq (length c.args.text.now) 0 ≡ false = ne_eqb (length c.args.text.now) 0 c.if-text-eq0.false in
    subst (λ (b : Bool). next ≡ base ++ lines_text (cond b [] (caption ∷ []))) (sym some)
    (as_lines base next caption c.in_ok-put_plain.ensures)
