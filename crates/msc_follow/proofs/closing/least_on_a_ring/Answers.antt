use Rattle.std.proofs.Common.{◌≡◌, ℕ, List, rules, ◌∙◌, subst}
use Rattle.std.proofs.lemmas.List.{with_items_is}
use Rattle.msc_follow.specs.Tables.{IsClosed}
use Rattle.msc_follow.proofs.Joining.{least_closed}
use Rattle.msc_follow.proofs.closing.least_on_a_ring.Goals as goal

pub returns : goal.returns
returns c =
    let n : ℕ = c.args.n in
    let steps : List ℕ = c.args.steps.now in
    let new : List ℕ = c.close.new.words in
    let old : c.deref_mut.result.now ≡ steps = c.deref_mut.ensures.value ∙ c.in_ok-closed.ensures.items_if_clones_equal (λ y e. search rules) in
    let same = with_items_is c.in_ok-closed.closed new (c.close.auto.words ∙ c.deref_mut.ensures.len) in
    let closed = subst (λ (words : List ℕ). IsClosed n words new n) old c.close.ensures in
    let found = rw (c.deref.ensures.value, same) at c.least_with_itself.ensures in
    least_closed n steps new closed c.requires.inside c.least_with_itself.result found
