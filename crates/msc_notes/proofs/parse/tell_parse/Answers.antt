use Rattle.std.proofs.Common.{◌≤◌, length, IfSome, sym, subst, ◌∙◌}
use Rattle.msc_notes.proofs.FaultPlaces.{fault_inside}
use Rattle.msc_notes.proofs.parse.tell_parse.Goals as goal

pub returns-clause-place : goal.returns-clause-place
returns-clause-place c = λ h.
    c.kept.ensures.same (subst (λ o. IfSome o (λ at. at ≤ length c.args.text.now)) (sym c.place.ensures) (fault_inside c.args.text.now c.args.fault h)) ∙ c.place.ensures
