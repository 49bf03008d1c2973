use Rattle.std.proofs.Common.{◌≡◌, None, Some, append-nil, sym, rules}
use Rattle.std.specs.Prelude.{slice_get}
use Rattle.std.proofs.lemmas.Option.{gets}
use Rattle.msc_svg.proofs.caption.put_captions.Goals as goal

pub returns-in_default : goal.returns-in_default
returns-in_default c =
    let none : slice_get c.args.scene.now.spots c.args.e ≡ None = search (rules, gets) in
    rw none (sym (append-nil c.args.captions.now.items))

pub returns : goal.returns
returns c =
    let some : slice_get c.args.scene.now.spots c.args.e ≡ Some c.in-Some.spot.now = search (rules, gets) in
    rw some c.in_ok-put_act.ensures
