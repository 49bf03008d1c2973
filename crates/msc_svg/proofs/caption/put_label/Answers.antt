use Rattle.std.proofs.Common.{◌≡◌, None, Some, append-nil, sym, ap, ◌∙◌, ◌++◌, [], ◌∷◌, rules}
use Rattle.std.specs.Prelude.{slice_get}
use Rattle.std.proofs.lemmas.Option.{gets}
use Rattle.msc_svg.specs.declared.caption.Caption.{Caption}
use Rattle.msc_svg.proofs.caption.put_label.Goals as goal

pub returns-in_default : goal.returns-in_default
returns-in_default c =
    let none : slice_get c.args.scene.now.arrows c.args.m ≡ None = search (rules, gets) in
    rw none (sym (append-nil c.args.captions.now.items))

pub returns : goal.returns
returns c =
    let some : slice_get c.args.scene.now.arrows c.args.m ≡ Some c.in-Some.arrow.now = search (rules, gets) in
    rw some (c.in_ok-push.ensures.items
    ∙ ap (λ (x : Caption). c.args.captions.now.items ++ x ∷ []) c.in_ok-next.ensures)
