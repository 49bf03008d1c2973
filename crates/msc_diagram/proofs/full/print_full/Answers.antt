use Rattle.std.proofs.Common.{inl, inr, refl}
use Rattle.std.proofs.lemmas.Result.{err_from_is_err_and}
use Rattle.msc_print.proofs.Putting.{begins_none}
use Rattle.msc_diagram.proofs.full.print_full.Goals as goal

pub returns-in_err-words : goal.returns-in_err-words
returns-in_err-words g c runs are =
    let exit = err_from_is_err_and c.from_residual.result c.from_residual.ensures.1 in
    rw (exit.1, exit.2) (inr (refl, begins_none _ _))

pub returns : goal.returns
returns g c runs are = inl (c.print_with.ensures runs are)
