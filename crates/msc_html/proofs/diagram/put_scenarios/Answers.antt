use Rattle.std.proofs.Common.{◌≡◌, Bool, false, cond, ◌++◌, codes, nat_eq, sym, subst}
use Rattle.std.specs.Fmt.{decimal}
use Rattle.std.proofs.lemmas.Bool.{ne_eqb}
use Rattle.msc_svg.proofs.Chains.{behind}
use Rattle.msc_html.proofs.diagram.put_scenarios.Goals as goal

pub returns : goal.returns
returns c =
    let n = c.args.scenarios in
    let base = c.args.text.now.items in
    let p = c.extend_from_slice-2.new.self.items in
    let q = c.put_decimal.new.page.items in
    let next = c.extend_from_slice-3.new.self.items in
    let several = codes "Sequence diagram with " ++ decimal n in
    let is : nat_eq n 1 ≡ false = ne_eqb n 1 c.if-scenarios-eq1.false in
    subst (λ (b : Bool). next ≡ base ++ cond b (codes "Sequence diagram") (several ++ codes " scenarios")) (sym is)
    (behind base several (codes " scenarios") q next
    (behind base (codes "Sequence diagram with ") (decimal n) p q c.in_ok-extend_from_slice-2.ensures.items c.in_ok-put_decimal.ensures)
    c.in_ok-extend_from_slice-3.ensures.items)
