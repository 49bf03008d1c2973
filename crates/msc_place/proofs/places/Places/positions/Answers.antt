use Rattle.std.proofs.Common.{◌≡◌, ◌≤◌, ◌+◌, ◌++◌, [], ◌∷◌, length, get_or, ap, subst, sym, ◌∙◌, arith}
use Rattle.std.proofs.lemmas.List.{length-append}
use Rattle.msc_place.specs.Positions.{IsPosition}
use Rattle.msc_place.specs.Collecting.{no_place}
use Rattle.msc_place.proofs.EventPositionLemmas.{AreOf, IsOf, event_positions_all, event_positions_more}
use Rattle.msc_place.proofs.places.Places.positions.Goals as goal

pub loop-event-preserved : goal.loop-event-preserved
loop-event-preserved c =
    let text = c.args.self.now.text in
    let items = c.deref-event-items.result.now in
    let events = c.args.self.now.stand.events in
    let ps = c.loop-event.positions.items in
    let p = c.position.result in
    let listed : items ≡ events = c.deref-event-items.ensures.value ∙ ap (λ v. v.stand.events) c.self.view_is in
    let here : IsOf text items p c.loop-event.event-index =
    subst (λ bs. IsPosition bs (get_or items c.loop-event.event-index no_place).start p.line p.column) c.requires c.position.ensures in
    let stands : IsOf text events p c.loop-event.event-index = subst (λ es. IsOf text es p c.loop-event.event-index) listed here in
    let own : IsOf text events p (length ps) = subst (IsOf text events p) (sym c.loop-event.invariant.0) stands in
    let size : length (ps ++ p ∷ []) ≡ length ps + 1 = length-append ps (p ∷ []) in
    let all : AreOf text events (ps ++ p ∷ []) =
    λ k lt. event_positions_more text events ps p c.loop-event.invariant.1 own k (omega (arith, lt, size)) in
    rw c.in_ok-push.ensures.items ((omega (arith, size, c.loop-event.invariant.0)), all)

pub returns : goal.returns
returns c = λ t d.
    let items = c.deref-event-items.result.now in
    let events = c.args.self.now.stand.events in
    let ps = c.loop-event.positions.items in
    let listed : items ≡ events = c.deref-event-items.ensures.value ∙ ap (λ v. v.stand.events) c.self.view_is in
    let past : length events ≤ c.loop-event.event-index =
    subst (λ es. length es ≤ c.loop-event.event-index) listed c.loop-event-test.false in
    let within : c.loop-event.event-index ≤ length events =
    subst (λ es. c.loop-event.event-index ≤ length es) listed c.loop-event.auto.event-index-end in
    let size : length ps ≡ length events = omega (arith, past, within, c.loop-event.invariant.0) in
    event_positions_all c.args.self.now.text t c.args.self.now.stand (c.known.ensures.stand t d) ps size c.loop-event.invariant.1
