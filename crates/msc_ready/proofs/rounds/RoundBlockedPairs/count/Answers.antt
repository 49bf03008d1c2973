use Rattle.std.proofs.Common.{◌+◌, length, ap, sym, ◌∙◌, arith}
use Rattle.msc_race.proofs.Listing.Counts.{below_few}
use Rattle.msc_race.proofs.Listing.Pairs.{below_all, below_none}
use Rattle.msc_ready.specs.Held.{ReadyChart}
use Rattle.msc_ready.specs.Rounds.{is_between}
use Rattle.msc_ready.proofs.Between.{none_between}
use Rattle.msc_ready.proofs.Left.{left_below}
use Rattle.msc_ready.proofs.rounds.RoundBlockedPairs.count.Goals as goal

pub loop-x-init : goal.loop-x-init
loop-x-init c =
    let r = c.args.self.now.blocked_pairs.now in
    sym (ap length (below_none (is_between r c.args.self.now.numbers.now) (length r.chart.events)))

pub overflow_add-total : goal.overflow_add-total
overflow_add-total c =
    let r = c.args.self.now.blocked_pairs.now in
    let test = is_between r c.args.self.now.numbers.now in
    let few = (rw c.ready.ensures at c.facts.ensures.chart).few_events in
    let more = left_below test (length r.chart.events) c.loop-x.x _ _ c.loop-x.invariant c.count_from-total.ensures in
    let less = c.loop-x-test.true in
    let all = c.events-x-end.ensures ∙ ap (λ (s : ReadyChart). length s.chart.events) c.ready-2.ensures in
    let most = below_few test (length r.chart.events) (c.loop-x.x + 1) few in
    omega (arith, more, most, less, all, few)

pub loop-x-preserved : goal.loop-x-preserved
loop-x-preserved c =
    let r = c.args.self.now.blocked_pairs.now in
    left_below (is_between r c.args.self.now.numbers.now) (length r.chart.events) c.loop-x.x _ _ c.loop-x.invariant c.count_from-total.ensures

pub returns-clause-number : goal.returns-clause-number
returns-clause-number c =
    let r = c.args.self.now.blocked_pairs.now in
    let last = c.loop-x-test.false in
    let auto = c.loop-x.auto in
    let all = c.events-x-end.ensures ∙ ap (λ (s : ReadyChart). length s.chart.events) c.ready-2.ensures in
    c.loop-x.invariant ∙ ap length (below_all (is_between r c.args.self.now.numbers.now) (length r.chart.events) c.loop-x.x (omega arith))

pub returns-clause-none : goal.returns-clause-none
returns-clause-none c =
    let r = c.args.self.now.blocked_pairs.now in
    let last = c.loop-x-test.false in
    let auto = c.loop-x.auto in
    let all = c.events-x-end.ensures ∙ ap (λ (s : ReadyChart). length s.chart.events) c.ready-2.ensures in
    let number = c.loop-x.invariant ∙ ap length (below_all (is_between r c.args.self.now.numbers.now) (length r.chart.events) c.loop-x.x (omega arith)) in
    none_between r c.args.self.now.numbers.now c.facts-2.ensures.exact c.loop-x.total number
