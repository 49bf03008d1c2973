use Rattle.std.proofs.Common.{length, ap, ◌∙◌}
use Rattle.msc_race.proofs.Listing.OpenPairs.{gaps_are_open, row_is_few, row_reaches}
use Rattle.msc_race.proofs.racing.count_open.Goals as goal

pub count_gaps-requires-clause-reach : goal.count_gaps-requires-clause-reach
count_gaps-requires-clause-reach c = row_reaches c.requires.events c.row.ensures.words c.requires.within

pub count_gaps-requires-clause-few : goal.count_gaps-requires-clause-few
count_gaps-requires-clause-few c = row_is_few c.requires.events c.row.ensures.words c.facts.ensures.few_events

pub returns : goal.returns
returns c =
    let same = gaps_are_open c.args.order.now c.row.result.now c.args.e c.args.start c.args.end c.row.ensures.numbers in
    c.count_gaps.ensures c.args.e ∙ ap length same
