use Rattle.std.proofs.Common.{◌≡◌, Some, slice_get, sym, ap, subst, ◌∙◌}
use Rattle.std.proofs.lemmas.Result.{IfOk-weaker}
use Rattle.msc_parser.specs.declared.tree.Signal.{Signal}
use Rattle.msc_parser.specs.declared.tree.Statement.TheVariants.{Message}
use Rattle.msc_notes.specs.FaultNotes.{BeginWith, name_note}
use Rattle.msc_notes.proofs.ChartPlaces.{statements_same}
use Rattle.msc_notes.proofs.chart.address_notes.Goals as goal

pub returns-in-Some : goal.returns-in-Some
returns-in-Some c =
    let e = c.args.e in let x = c.in-Some.signal.now in
    let listed = ap (λ ss. slice_get ss e) (sym (statements_same c.args.events.now c.args.draft.now.sections c.requires)) in
    IfOk-weaker c.named_notes.result _ _ (λ notes h. λ s k.
    let same : Some (Message s) ≡ Some (Message x) = sym k ∙ listed ∙ c.in-Some.ensures in
    let one : x ≡ s = cc same in
    let name = c.as_slice.ensures ∙ ap (λ (q : Signal). q.address) one in
    subst (λ n. BeginWith notes.items (name_note n)) name h) c.named_notes.ensures

pub returns-in-None : goal.returns-in-None
returns-in-None c = λ s k.
    let listed = ap (λ ss. slice_get ss c.args.e) (statements_same c.args.events.now c.args.draft.now.sections c.requires) in
    absurd (c.in-None.ensures s (listed ∙ k))
