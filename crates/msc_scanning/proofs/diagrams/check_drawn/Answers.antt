use Rattle.std.proofs.Common.{inl, inr, refl}
use Rattle.std.proofs.lemmas.Result.{err_from_is_err_and}
use Rattle.msc_scanning.proofs.diagrams.check_drawn.Goals as goal

pub returns-in_err-queues : goal.returns-in_err-queues
returns-in_err-queues g c =
    let p = err_from_is_err_and c.from_residual.result c.from_residual.ensures.1 in rw (p.1, p.2) (inr (inl c.in_err-queues.ensures.refused, refl))
