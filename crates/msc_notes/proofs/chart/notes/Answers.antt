use Rattle.std.proofs.Common.{subst, sym}
use Rattle.std.proofs.lemmas.Result.{IfOk-weaker}
use Rattle.msc_notes.specs.FaultNotes.{AreChartNotes}
use Rattle.msc_notes.proofs.chart.notes.Goals as goal

pub returns-in-TwiceInstance : goal.returns-in-TwiceInstance
returns-in-TwiceInstance c =
    let t = c.args.draft.now in let text = c.args.places.now.text in
    IfOk-weaker c.repeated_notes.result _ _
    (λ notes h. λ d. subst (λ f. AreChartNotes text t f notes.items) (sym c.in-TwiceInstance.is) (h d)) c.repeated_notes.ensures

pub returns-in-TwiceEvent : goal.returns-in-TwiceEvent
returns-in-TwiceEvent c =
    let t = c.args.draft.now in let text = c.args.places.now.text in
    IfOk-weaker c.twice_notes.result _ _
    (λ notes h. λ d. subst (λ f. AreChartNotes text t f notes.items) (sym c.in-TwiceEvent.is) (h d)) c.twice_notes.ensures
