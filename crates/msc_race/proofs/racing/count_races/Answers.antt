use Rattle.std.proofs.Common.{ℕ, ◌+◌, length, sym, ap, ◌∙◌, arith}
use Rattle.std.proofs.lemmas.List.{length-append}
use Rattle.msc_race.specs.Races.{is_raced}
use Rattle.msc_race.proofs.Listing.Counts.{below_few}
use Rattle.msc_race.proofs.Listing.Pairs.{below_all, below_more, below_none, pairs_below}
use Rattle.msc_race.proofs.racing.count_races.Goals as goal

pub loop-e-init : goal.loop-e-init
loop-e-init c = record {
  total = sym (ap length (below_none (is_raced c.args.chart.now.events c.args.order.now) (length c.args.chart.now.events)));
  reached = c.new-walk.ensures c.args.chart.now.events;
}

-- the pairs of the event are among those of the numbers up to it
pub overflow_add-total : goal.overflow_add-total
overflow_add-total c =
    let raced = is_raced c.args.chart.now.events c.args.order.now in
    let n : ℕ = length c.args.chart.now.events in
    let events = c.events-e-end.ensures in
    let few = events.accepted.few_events in
    let more = ap length (below_more raced n c.loop-e.e) ∙ length-append (pairs_below raced n c.loop-e.e) _ in
    let most = below_few raced n (c.loop-e.e + 1) few in
    let before = c.loop-e.invariant.total in
    let last = c.count-total.ensures.count in
    let test = c.loop-e-test.true in
    omega (arith, more, most, before, last, test, few, events.number)

pub loop-e-preserved : goal.loop-e-preserved
loop-e-preserved c =
    let raced = is_raced c.args.chart.now.events c.args.order.now in
    let n : ℕ = length c.args.chart.now.events in
    let more = ap length (below_more raced n c.loop-e.e) ∙ length-append (pairs_below raced n c.loop-e.e) _ in
    let before = c.loop-e.invariant.total in
    let last = c.count-total.ensures.count in
    record { total = omega (arith, more, before, last); reached = c.count-total.ensures.reached }

pub returns : goal.returns
returns c =
    let n : ℕ = length c.args.chart.now.events in
    let last = c.loop-e-test.false in
    let count = c.events-e-end.ensures.number in
    c.loop-e.invariant.total ∙ ap length (below_all (is_raced c.args.chart.now.events c.args.order.now) n c.loop-e.e (omega arith))
