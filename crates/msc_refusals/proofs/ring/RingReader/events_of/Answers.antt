use Rattle.std.proofs.Common.{All, map, Option, IfSome, ap, sym, ◌∙◌, subst}
use Rattle.std.proofs.lemmas.List.{map_push}
use Rattle.std.proofs.lemmas.List.Elements.{All-push}
use Rattle.msc_shown_chart.specs.Shown.{PlainEvent}
use Rattle.msc_refusals.specs.Rings.{plain_ring, IsRingEvent}
use Rattle.msc_refusals.specs.declared.ring.RingEvent.{RingEvent}
use Rattle.msc_refusals.proofs.ring.RingReader.events_of.Goals as goal
use Rattle.msc_refusals.proofs.ring.RingReader.events_of.Goals.{in-Some+in_ok-push, in_default}

pub loop-note-preserved : goal.loop-note-preserved
loop-note-preserved c =
    let P : PlainEvent → Type 0 = IsRingEvent c.args.self.now.refused c.args.self.now.draft.now in
    elim c.match-branch-2.branch [
      | in-Some+in_ok-push w ↦
          let old = c.loop-note.events.items in
          let x = w.in-Some.event in
          subst (All P) (sym (ap (map plain_ring) (ap (λ v. v.items) w.events-is ∙ w.in_ok-push.ensures.items) ∙ map_push plain_ring old x))
          (All-push P (map plain_ring old) (plain_ring x) c.loop-note.invariant
          (subst (λ (o : Option RingEvent). IfSome o (λ event. P (plain_ring event))) w.in-Some.is c.in_ok-event.ensures))
      | in_default w ↦ subst (All P) (sym (ap (λ v. map plain_ring v.items) w.events-is)) c.loop-note.invariant
    ]
