use Rattle.std.proofs.Common.{◌≡◌, ◌≢◌, ◌<◌, ◌≤◌, length, get_or, ap, subst, ◌∙◌, arith, below_more}
use Rattle.msc_place.specs.Positions.{IsPosition}
use Rattle.msc_place.specs.Collecting.{no_place}
use Rattle.msc_place.proofs.PositionLemmas.{line_told}
use Rattle.msc_place.proofs.OnLines.{line_at, none_found, first_found}
use Rattle.msc_place.proofs.places.Places.event_at_line.Goals as goal

pub loop-e-preserved : goal.loop-e-preserved
loop-e-preserved c =
    let items = c.deref-event-items.result.now in let e = c.loop-e.e in
    let text = c.args.self.now.text in let events = c.args.self.now.stand.events in
    let listed : items ≡ events = c.deref-event-items.ensures.value ∙ ap (λ v. v.stand.events) c.self.view_is in
    let here : IsPosition text (get_or items e no_place).start c.position.result.line c.position.result.column =
    subst (λ bs. IsPosition bs (get_or items e no_place).start c.position.result.line c.position.result.column) c.requires c.position.ensures in
    let stands : IsPosition text (get_or events e no_place).start c.position.result.line c.position.result.column =
    subst (λ es. IsPosition text (get_or es e no_place).start c.position.result.line c.position.result.column) listed here in
    below_more (λ k. line_at text (get_or events k no_place).start ≢ c.args.line) e c.loop-e.invariant
    (λ same. c.if-position-line.false (line_told stands ∙ same))

pub returns-then-position-line : goal.returns-then-position-line
returns-then-position-line c = λ t d.
    let items = c.deref-event-items.result.now in let e = c.loop-e.e in
    let text = c.args.self.now.text in let events = c.args.self.now.stand.events in
    let listed : items ≡ events = c.deref-event-items.ensures.value ∙ ap (λ v. v.stand.events) c.self.view_is in
    let here : IsPosition text (get_or items e no_place).start c.position.result.line c.position.result.column =
    subst (λ bs. IsPosition bs (get_or items e no_place).start c.position.result.line c.position.result.column) c.requires c.position.ensures in
    let stands : IsPosition text (get_or events e no_place).start c.position.result.line c.position.result.column =
    subst (λ es. IsPosition text (get_or es e no_place).start c.position.result.line c.position.result.column) listed here in
    let inside : e < length events = subst (λ es. e < length es) listed c.loop-e-test.true in
    let on = subst (λ n. IsPosition text (get_or events e no_place).start n c.position.result.column) c.if-position-line.true stands in
    first_found c.each_event_begins_once.ensures text t c.args.self.now.stand (c.known.ensures.stand t d) c.args.line c.position.result.column e inside on c.loop-e.invariant

pub returns : goal.returns
returns c = λ t d.
    let items = c.deref-event-items.result.now in let e = c.loop-e.e in
    let text = c.args.self.now.text in let events = c.args.self.now.stand.events in
    let listed : items ≡ events = c.deref-event-items.ensures.value ∙ ap (λ v. v.stand.events) c.self.view_is in
    let past : length events ≤ e = subst (λ es. length es ≤ e) listed c.loop-e-test.false in
    none_found c.each_event_begins_once.ensures text t c.args.self.now.stand (c.known.ensures.stand t d) c.args.line
    (λ k h. c.loop-e.invariant k (omega arith))
