use Rattle.std.proofs.Common.{subst}
use Rattle.std.proofs.lemmas.Result.{IfOk-weaker}
use Rattle.msc_notes.specs.Putting.{IsPartWithout}
use Rattle.msc_notes.proofs.Parts.{further_of}
use Rattle.msc_notes.proofs.other_faults.further.Goals as goal

pub returns : goal.returns
returns c =
    IfOk-weaker c.others.result _ _ (λ part p.
    further_of c.args.draft.now c.args.first c.in_ok-all.all.items part.items c.in_ok-all.ensures
    (subst (λ xs. IsPartWithout c.args.first part.items xs) c.as_slice-2.ensures.value p)) c.others.ensures
