use Rattle.std.proofs.Common.{◌≡◌, ◌≤◌, length, MatchOption, slice_get, sym, ap, subst, ◌∙◌}
use Rattle.msc_parser.specs.Drafts.{statements_of}
use Rattle.msc_place.specs.Standing.{IsEventPlace}
use Rattle.msc_place.proofs.places.Places.event.Goals as goal

pub returns-clause-stands : goal.returns-clause-stands
returns-clause-stands c = λ t d.
    let text = c.args.self.now.text in
    let is : c.nth.result ≡ slice_get c.args.self.now.stand.events c.args.e =
    c.nth.ensures ∙ ap (λ xs. slice_get xs c.args.e) (c.deref.ensures.value ∙ ap (λ v. v.stand.events) c.self.view_is) in
    subst (λ r. MatchOption r (length (statements_of t.sections) ≤ c.args.e) (IsEventPlace text t c.args.e)) (sym is) ((c.known.ensures.stand t d).events c.args.e)
