use Rattle.std.proofs.Common.{ℕ, ◌+◌, length, ap, sym, ◌∙◌, arith}
use Rattle.msc_race.proofs.Listing.Pairs.{below_all, below_none}
use Rattle.msc_ready.proofs.Listing.{test, one_more_counted, few_counted}
use Rattle.msc_ready.proofs.ready.Ready.count_blocked_pairs.Goals as goal

pub loop-e-init : goal.loop-e-init
loop-e-init c = sym (ap length (below_none (test c.args.self.now) (length c.args.self.now.chart.events)))

pub overflow_add-total : goal.overflow_add-total
overflow_add-total c =
    let few = c.facts.ensures.chart.few_events in
    let more = one_more_counted c.args.self.now c.loop-e.e _ _ c.loop-e.invariant c.count_from-total.ensures in
    let less = c.loop-e-test.true in
    let all = c.events-e-end.ensures in
    let most = few_counted c.args.self.now (c.loop-e.e + 1) few (omega (arith, less, all, few)) in
    omega (arith, more, most)

pub loop-e-preserved : goal.loop-e-preserved
loop-e-preserved c = one_more_counted c.args.self.now c.loop-e.e _ _ c.loop-e.invariant c.count_from-total.ensures

pub returns : goal.returns
returns c =
    let n : ℕ = length c.args.self.now.chart.events in
    let last = c.loop-e-test.false in
    let auto = c.loop-e.auto in
    let all = c.events-e-end.ensures in
    c.loop-e.invariant ∙ ap length (below_all (test c.args.self.now) n c.loop-e.e (omega arith))
