use Rattle.std.proofs.Common.{◌≡◌, ◌≤◌, length, MatchOption, slice_get, sym, ap, subst, ◌∙◌}
use Rattle.msc_place.specs.Standing.{NamesSection}
use Rattle.msc_place.proofs.places.Places.section.Goals as goal

pub returns-clause-stands : goal.returns-clause-stands
returns-clause-stands c = λ t d.
    let text = c.args.self.now.text in
    let is : c.nth.result ≡ slice_get c.args.self.now.stand.sections c.args.i =
    c.nth.ensures ∙ ap (λ xs. slice_get xs c.args.i) (c.deref.ensures.value ∙ ap (λ v. v.stand.sections) c.self.view_is) in
    subst (λ r. MatchOption r (length t.sections ≤ c.args.i) (NamesSection text t c.args.i)) (sym is) ((c.known.ensures.stand t d).sections c.args.i)
