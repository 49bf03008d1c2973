use Rattle.std.proofs.Common.{◌≡◌, ◌++◌, None, Some, List, ℕ, append-nil, sym, ap, ◌∙◌, rules}
use Rattle.std.specs.Prelude.{slice_get}
use Rattle.std.proofs.lemmas.Option.{gets}
use Rattle.msc_html.specs.Telling.{act_done}
use Rattle.msc_html.proofs.telling.put_done.Goals as goal

pub returns-in_default : goal.returns-in_default
returns-in_default c =
    let none : slice_get c.args.scene.now.spots c.args.e ≡ None = search (rules, gets) in
    rw none (sym (append-nil c.args.parts.now.items))

pub returns : goal.returns
returns c =
    let some : slice_get c.args.scene.now.spots c.args.e ≡ Some c.in-Some.spot.now = search (rules, gets) in
    rw some (c.in_ok-put_act_done.ensures
    ∙ ap (λ (n : List ℕ). c.args.parts.now.items ++ act_done c.args.scene.now n c.in-Some.spot.now.act)
    c.name_at.ensures)
