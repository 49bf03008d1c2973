use Rattle.std.proofs.Common.{◌≡◌, ℕ, ◌++◌, List, refl, subst}
use Rattle.std.specs.Prelude.{OnOk}
use Rattle.msc_race.proofs.Listing.DrawnPairs.{goes_on, open_are_raced}
use Rattle.msc_race.proofs.racing.Walk.push_races.Goals as goal

pub returns-clause-reached : goal.returns-clause-reached
returns-clause-reached c =
    let ends = c.reach.ensures in
    goes_on c.args.chart.now.events c.facts.ensures.in_text_order c.args.e _ _ ends.segment ends.line c.reach.new.self refl refl

pub returns-clause-races : goal.returns-clause-races
returns-clause-races c =
    let ends = c.reach.ensures in
    let same = open_are_raced c.args.chart.now.events c.facts.ensures.in_text_order c.args.e _ _ ends.segment ends.line c.args.order.now in
    subst (λ (l : List (ℕ × ℕ)). OnOk c.push_open.result (c.push_open.new.list.items ≡ c.args.list.now.items ++ l)) same c.push_open.ensures
