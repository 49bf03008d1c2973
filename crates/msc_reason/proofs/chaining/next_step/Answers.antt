use Rattle.msc_order.specs.Caused.{IsFollowedBy}
use Rattle.std.proofs.Common.{ℕ, inl, inr, sym, subst}
use Rattle.msc_race.specs.Views.{wiring_of}
use Rattle.msc_order.proofs.Once.{caused_enforced}
use Rattle.msc_race.proofs.Runs.EnforcedPairs.{enforced_below}
use Rattle.msc_reason.specs.Chains.Step.{over}
use Rattle.msc_reason.proofs.Walking.{link_step, over_step}
use Rattle.msc_reason.proofs.chaining.next_step.Goals as goal

pub last_link-requires-clause-x_known : goal.last_link-requires-clause-x_known
last_link-requires-clause-x_known c =
    let chart = wiring_of c.args.enforced.now in
    (enforced_below chart (c.ends_share_queues.ensures c.args.enforced.now.queues c.args.enforced.now.chart c.facts.ensures.chart) c.args.x c.args.y (caused_enforced chart c.args.x c.args.y c.requires)).0

pub last_link-requires-clause-y_known : goal.last_link-requires-clause-y_known
last_link-requires-clause-y_known c =
    let chart = wiring_of c.args.enforced.now in
    (enforced_below chart (c.ends_share_queues.ensures c.args.enforced.now.queues c.args.enforced.now.chart c.facts.ensures.chart) c.args.x c.args.y (caused_enforced chart c.args.x c.args.y c.requires)).1

pub other_end-requires : goal.other_end-requires
other_end-requires c =
    let chart = wiring_of c.args.enforced.now in
    rw c.chart.ensures (enforced_below chart (c.ends_share_queues.ensures c.args.enforced.now.queues c.args.enforced.now.chart c.facts.ensures.chart) c.args.x c.args.y (caused_enforced chart c.args.x c.args.y c.requires)).0

pub returns-in-Some-clause-step : goal.returns-in-Some-clause-step
returns-in-Some-clause-step c =
    (link_step (wiring_of c.args.enforced.now) (c.ends_share_queues.ensures c.args.enforced.now.queues c.args.enforced.now.chart c.facts.ensures.chart) c.args.x c.args.y c.in-Some.z c.in-Some.ensures.0).0

pub returns-in-Some-clause-onward : goal.returns-in-Some-clause-onward
returns-in-Some-clause-onward c =
    (link_step (wiring_of c.args.enforced.now) (c.ends_share_queues.ensures c.args.enforced.now.queues c.args.enforced.now.chart c.facts.ensures.chart) c.args.x c.args.y c.in-Some.z c.in-Some.ensures.0).1

pub returns-in-None-clause-step : goal.returns-in-None-clause-step
returns-in-None-clause-step c =
    let sent = over_step (wiring_of c.args.enforced.now) c.args.x c.args.y c.requires c.in-None.ensures in
    let other = rw c.chart.ensures at c.other_end.ensures.value in
    over sent.0 (sym other)

pub returns-in-None-clause-onward : goal.returns-in-None-clause-onward
returns-in-None-clause-onward c =
    let sent = over_step (wiring_of c.args.enforced.now) c.args.x c.args.y c.requires c.in-None.ensures in
    let other = rw c.chart.ensures at c.other_end.ensures.value in
    subst (λ (z : ℕ). IsFollowedBy c.args.enforced.now.chart.events z c.args.y) (sym other) sent.1

pub returns-in-Some-clause-chosen : goal.returns-in-Some-clause-chosen
returns-in-Some-clause-chosen c = inl c.in-Some.ensures

pub returns-in-None-clause-chosen : goal.returns-in-None-clause-chosen
returns-in-None-clause-chosen c = inr (c.in-None.ensures, (let other = rw c.chart.ensures at c.other_end.ensures.value in sym other))
