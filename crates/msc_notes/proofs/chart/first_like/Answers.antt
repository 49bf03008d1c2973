use Rattle.std.proofs.Common.{subst}
use Rattle.msc_notes.specs.FaultNotes.{HasNoMessageAt, IsFirstLike}
use Rattle.msc_notes.proofs.Acts.{acts_same, like_begins}
use Rattle.msc_notes.proofs.chart.first_like.Goals as goal

pub returns-in-Some : goal.returns-in-Some
returns-in-Some c = λ d.
    let t = c.args.draft.now in
    let same = acts_same c.args.events.now t c.requires in
    like_begins c.args.places.now.text t c.args.e c.in-Some.j c.event_place.result
    (subst (λ acts. IsFirstLike acts c.args.e c.in-Some.j) same c.in-Some.ensures) (c.event_place.ensures.stands t d)

pub returns-in-None : goal.returns-in-None
returns-in-None c = λ d.
    subst (λ acts. HasNoMessageAt acts c.args.e) (acts_same c.args.events.now c.args.draft.now c.requires) c.in-None.ensures
