use Rattle.std.proofs.Common.{◌≡◌, ℕ, ◌+◌, List, cond, subst, ◌∙◌, ap, sym}
use Rattle.msc_diagram.proofs.Tallying.{tally_more}
use Rattle.msc_diagram.specs.Places.{same_places}
use Rattle.msc_diagram.specs.Tallies.{tally_at}
use Rattle.msc_diagram.specs.declared.place.EventPlace.{EventPlace}
use Rattle.msc_diagram.proofs.tally.PlaceTally.add.Goals as goal

pub returns : goal.returns
returns c p =
    let q = c.args.places in
    subst (λ (old : List ((EventPlace × EventPlace) × ℕ)). tally_at c.insert.new.self.entries p ≡ tally_at old p + cond (same_places p q) 1 0) c.self.view_is
    (tally_more c.self.inside.pairs.entries c.insert.new.self.entries q p c.in-Some.count c.in_ok-insert.ensures.updates.0
    (c.in-Some.ensures.1 ∙ ap (λ (n : ℕ). n + 1) (c.count.ensures ∙ ap (λ (l : List ((EventPlace × EventPlace) × ℕ)). tally_at l q) (sym c.self.view_is))))
