use Rattle.std.proofs.Common.{◌≡◌, ℕ, List, [], ◌∷◌, length, refl, sym, ◌∙◌, subst, arith}
use Rattle.msc_race.proofs.Listing.DrawnPairs.{list_of_races, no_races}
use Rattle.msc_race.specs.Views.{races_of, wiring_of}
use Rattle.msc_text.specs.Judging.{IsBarred}
use Rattle.msc_text.proofs.judging.barring_ring.Goals as goal

-- a list with no element is empty
empty : (pairs : List (ℕ × ℕ)) → length pairs ≡ 0 → pairs ≡ []
empty [] none = refl
empty (p ∷ pairs) none = absurd (omega (arith, none))

-- some run keeps a drawing that has no race
pub returns-then-count_races-eq0 : goal.returns-then-count_races-eq0
returns-then-count_races-eq0 c =
    let e = c.args.enforced.now in
    let none = empty (races_of e) (sym c.count_races.ensures ∙ c.if-count_races-eq0.true) in
    let list = list_of_races (wiring_of e) e.order c.facts.ensures.order.enforced (races_of e) refl in
    subst (IsBarred (wiring_of e)) (sym c.new.ensures.items)
    (c.a_pass_is_followed.ensures e.queues e.chart c.facts.ensures.chart (no_races (wiring_of e) (races_of e) list none))
