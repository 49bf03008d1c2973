use Rattle.std.proofs.Common.{◌≡◌, ◌≤◌, length, MatchOption, slice_get, sym, ap, subst, ◌∙◌}
use Rattle.msc_place.specs.Standing.{NamesDecl}
use Rattle.msc_place.proofs.places.Places.header.Goals as goal

pub returns-clause-stands : goal.returns-clause-stands
returns-clause-stands c = λ t d.
    let text = c.args.self.now.text in
    let is : c.nth.result ≡ slice_get c.args.self.now.stand.header c.args.k =
    c.nth.ensures ∙ ap (λ xs. slice_get xs c.args.k) (c.deref.ensures.value ∙ ap (λ v. v.stand.header) c.self.view_is) in
    subst (λ r. MatchOption r (length t.header ≤ c.args.k) (NamesDecl text t c.args.k)) (sym is) ((c.known.ensures.stand t d).header c.args.k)
