use Rattle.msc_chart.specs.Orders.{wired}
use Rattle.msc_follow.proofs.Rings.{cells_below, none_of_table, shown, some_ring, start_below}
use Rattle.msc_follow.proofs.following.ring_of.Goals as goal

pub least_on_a_ring-requires-clause-inside : goal.least_on_a_ring-requires-clause-inside
least_on_a_ring-requires-clause-inside c =
    let chart = wired c.args.queues c.args.chart.now in
    let is_wired = c.ends_share_queues.ensures c.args.queues c.args.chart.now c.facts.ensures in
    rw (c.events-events.ensures.number, c.deref.ensures.value) (cells_below chart is_wired c.in_ok-steps.steps.items c.in_ok-steps.ensures.steps)

pub unreachable-requires : goal.unreachable-requires
unreachable-requires c =
    let chart = wired c.args.queues c.args.chart.now in
    let is_wired = c.ends_share_queues.ensures c.args.queues c.args.chart.now c.facts.ensures in
    let told = rw c.in_default.is at c.in_ok-start.ensures in
    let none = rw (c.events-events.ensures.number, c.deref.ensures.value) at told in
    let can = c.a_drawing_without_a_ring_is_followed.ensures c.args.queues c.args.chart.now c.facts.ensures
    (none_of_table chart is_wired c.in_ok-steps.steps.items c.in_ok-steps.ensures.steps none) in
    c.requires can.0 can.1

pub ring-requires-clause-start : goal.ring-requires-clause-start
ring-requires-clause-start c =
    let chart = wired c.args.queues c.args.chart.now in
    let is_wired = c.ends_share_queues.ensures c.args.queues c.args.chart.now c.facts.ensures in
    let told = rw c.in-Some.is at c.in_ok-start.ensures in
    let least = rw (c.events-events.ensures.number, c.deref.ensures.value) at told in
    rw c.events-events.ensures.number (start_below chart is_wired c.in_ok-steps.steps.items c.in_ok-steps.ensures.steps c.in-Some.start least)

pub unreachable-requires-in-None : goal.unreachable-requires-in-None
unreachable-requires-in-None c =
    let chart = wired c.args.queues c.args.chart.now in
    let is_wired = c.ends_share_queues.ensures c.args.queues c.args.chart.now c.facts.ensures in
    let told = rw c.in-Some.is at c.in_ok-start.ensures in
    let least = rw (c.events-events.ensures.number, c.deref.ensures.value) at told in
    let found = rw c.in-None.is at c.in_ok-ring.ensures.none in
    let none = rw (c.events-events.ensures.number, c.deref-2.ensures.value) at found in
    some_ring chart is_wired c.in_ok-steps.steps.items c.in_ok-steps.ensures.steps c.in-Some.start least none

pub returns : goal.returns
returns c =
    let chart = wired c.args.queues c.args.chart.now in
    let is_wired = c.ends_share_queues.ensures c.args.queues c.args.chart.now c.facts.ensures in
    let told = rw c.in-Some.is at c.in_ok-start.ensures in
    let least = rw (c.events-events.ensures.number, c.deref.ensures.value) at told in
    let found = rw c.in-Some-2.is at c.in_ok-ring.ensures.found in
    let ring = rw (c.events-events.ensures.number, c.deref-2.ensures.value) at found in
    shown chart is_wired c.in_ok-steps.steps.items c.in_ok-steps.ensures.steps c.in-Some.start least c.in-Some-2.ring.items ring
