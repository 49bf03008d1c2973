use Rattle.std.proofs.Common.{ℕ, ◌≡◌, ◌++◌, List, subst}
use Rattle.std.specs.Prelude.{OnOk}
use Rattle.msc_race.proofs.Listing.OpenPairs.{gaps_are_open, row_is_few, row_reaches}
use Rattle.msc_race.proofs.racing.push_open.Goals as goal

pub push_gaps-requires-clause-reach : goal.push_gaps-requires-clause-reach
push_gaps-requires-clause-reach c = row_reaches c.requires.events c.row.ensures.words c.requires.within

pub push_gaps-requires-clause-few : goal.push_gaps-requires-clause-few
push_gaps-requires-clause-few c = row_is_few c.requires.events c.row.ensures.words c.facts.ensures.few_events

pub returns : goal.returns
returns c =
    let same = gaps_are_open c.args.order.now c.row.result.now c.args.e c.args.start c.args.end c.row.ensures.numbers in
    subst (λ (l : List (ℕ × ℕ)). OnOk c.push_gaps.result (c.push_gaps.new.list.items ≡ c.args.list.now.items ++ l)) same c.push_gaps.ensures
