use Rattle.msc_race.specs.Views.{wiring_of}
use Rattle.msc_chart.proofs.Drawn.{input_parts}
use Rattle.msc_chart.proofs.ListLemmas.{clash}
use Rattle.msc_race.proofs.Runs.EnforcedPairs.{enforced_below}
use Rattle.msc_reason.proofs.OnePair.{share_from}
use Rattle.msc_reason.proofs.Walking.{chain_from, mate_exists}
use Rattle.msc_reason.proofs.chaining.why_of.Goals as goal

pub is_caused-requires-clause-x_known : goal.is_caused-requires-clause-x_known
is_caused-requires-clause-x_known c =
    (enforced_below (wiring_of c.args.enforced.now) (c.ends_share_queues.ensures c.args.enforced.now.queues c.args.enforced.now.chart c.facts.ensures.chart) c.args.e c.args.f c.requires).0

pub is_caused-requires-clause-y_known : goal.is_caused-requires-clause-y_known
is_caused-requires-clause-y_known c =
    (enforced_below (wiring_of c.args.enforced.now) (c.ends_share_queues.ensures c.args.enforced.now.queues c.args.enforced.now.chart c.facts.ensures.chart) c.args.e c.args.f c.requires).1

pub first_mate-u-requires-clause-input : goal.first_mate-u-requires-clause-input
first_mate-u-requires-clause-input c =
    (mate_exists (wiring_of c.args.enforced.now) (c.ends_share_queues.ensures c.args.enforced.now.queues c.args.enforced.now.chart c.facts.ensures.chart) c.args.e c.args.f c.requires
    (λ caused. clash (c.is_caused.ensures.1 caused) c.if-is_caused.false)).1.0.first

pub first_mate-u-requires-clause-f_known : goal.first_mate-u-requires-clause-f_known
first_mate-u-requires-clause-f_known c =
    (enforced_below (wiring_of c.args.enforced.now) (c.ends_share_queues.ensures c.args.enforced.now.queues c.args.enforced.now.chart c.facts.ensures.chart) c.args.e c.args.f c.requires).1

pub first_mate-u-requires-clause-some : goal.first_mate-u-requires-clause-some
first_mate-u-requires-clause-some c =
    mate_exists (wiring_of c.args.enforced.now) (c.ends_share_queues.ensures c.args.enforced.now.queues c.args.enforced.now.chart c.facts.ensures.chart) c.args.e c.args.f c.requires
    (λ caused. clash (c.is_caused.ensures.1 caused) c.if-is_caused.false)

pub other_end-output-requires : goal.other_end-output-requires
other_end-output-requires c =
    rw c.chart-chart.ensures (enforced_below (wiring_of c.args.enforced.now) (c.ends_share_queues.ensures c.args.enforced.now.queues c.args.enforced.now.chart c.facts.ensures.chart) c.args.e c.args.f c.requires).0

pub other_end-requires : goal.other_end-requires
other_end-requires c = rw c.chart-chart.ensures (input_parts c.args.enforced.now.chart.events c.first_mate-u.result c.first_mate-u.ensures.0.0.second).0

pub returns : goal.returns
returns c =
    let chart = wiring_of c.args.enforced.now in
    let mate = c.first_mate-u.ensures.0.0 in
    let output = rw c.chart-chart.ensures at c.other_end-output.ensures.value in
    let other = rw c.chart-chart.ensures at c.other_end.ensures.value in
    let h = c.in_ok-outputs.ensures in (
      record {
        mates = share_from chart c.args.e c.first_mate-u.result mate.first mate.second mate.one_queue;
        chain = chain_from chart (c.the_enforced_order_has_no_cycle.ensures c.args.enforced.now.queues c.args.enforced.now.chart c.facts.ensures.chart) _ _ _ mate.outputs
            (rw (← output, ← other) h.0);
        rest = c.in_ok-onward.ensures.0;
      },
      (
        λ caused. clash (c.is_caused.ensures.1 caused) c.if-is_caused.false,
        c.first_mate-u.ensures,
        rw (← output, ← other) h.1,
        c.in_ok-onward.ensures.1,
      ),
    )
