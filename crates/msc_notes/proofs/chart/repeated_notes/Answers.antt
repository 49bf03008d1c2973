use Rattle.std.proofs.Common.{◌<◌, length, subst, arith}
use Rattle.std.proofs.lemmas.Option.{slice_get_within}
use Rattle.std.proofs.lemmas.Result.{IfOk-weaker}
use Rattle.msc_notes.specs.FaultNotes.{AreOfName}
use Rattle.msc_notes.proofs.Named.{repeated}
use Rattle.msc_notes.proofs.chart.repeated_notes.Goals as goal

pub returns-in-Some : goal.returns-in-Some
returns-in-Some c =
    let t = c.args.draft.now in let text = c.args.places.now.text in
    IfOk-weaker c.section_notes.result _ _ (λ notes e. λ d.
    repeated text t c.args.i c.in-Some.section.now notes.items c.in-Some.ensures
    (subst (λ name. AreOfName text t name notes.items) c.as_slice.ensures (e d))) c.section_notes.ensures

pub returns-in-None : goal.returns-in-None
returns-in-None c = λ d s h.
    let inside : c.args.i < length c.args.draft.now.sections = slice_get_within c.args.draft.now.sections c.args.i s h in
    absurd (omega (arith, inside, c.in-None.ensures))
