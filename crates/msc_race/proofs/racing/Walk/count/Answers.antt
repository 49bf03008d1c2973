use Rattle.std.proofs.Common.{length, refl, ap, ◌∙◌}
use Rattle.msc_race.proofs.Listing.DrawnPairs.{goes_on, open_are_raced}
use Rattle.msc_race.proofs.racing.Walk.count.Goals as goal

pub returns-clause-reached : goal.returns-clause-reached
returns-clause-reached c =
    let ends = c.reach.ensures in
    goes_on c.args.chart.now.events c.facts.ensures.in_text_order c.args.e _ _ ends.segment ends.line c.reach.new.self refl refl

pub returns-clause-count : goal.returns-clause-count
returns-clause-count c =
    let ends = c.reach.ensures in
    let same = open_are_raced c.args.chart.now.events c.facts.ensures.in_text_order c.args.e _ _ ends.segment ends.line c.args.order.now in
    c.count_open.ensures ∙ ap length same
