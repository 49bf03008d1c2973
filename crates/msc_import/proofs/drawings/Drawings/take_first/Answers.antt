use Rattle.std.proofs.Common.{◌≡◌, length, take, subst, sym, ap, ◌∙◌}
use Rattle.msc_import.proofs.WholeLemmas.{first_are}
use Rattle.msc_import.proofs.drawings.Drawings.take_first.Goals as goal

pub returns-clause-first : goal.returns-clause-first
returns-clause-first c =
    let x = c.self.inside in
    let are = first_are x.manner x.name.now x.diagram.now x.lists.items x.first.items c.self.invariant.0 c.self.invariant.1 in
    subst (λ v. v.items ≡ take (length v.items) c.args.self.now) (sym c.replace.ensures.value) (are ∙ ap (take (length x.first.items)) c.self.view_is)
