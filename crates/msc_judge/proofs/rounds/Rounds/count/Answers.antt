use Rattle.std.proofs.Common.{◌+◌, length, ap, sym, ◌∙◌, subst, arith}
use Rattle.msc_chart.specs.Drawings.{IsAccepted}
use Rattle.msc_race.specs.Wired.{EnforcedChart}
use Rattle.msc_judge.proofs.BetweenLemmas.{told_few, told_last, told_more, told_none}
use Rattle.msc_judge.proofs.rounds.Rounds.count.Goals as goal

pub loop-x-init : goal.loop-x-init
loop-x-init c =
    let s = c.args.self.listing.now in
    sym (ap length (told_none c.args.self.numbers.now s.judged s.allowed))

pub overflow_cast-count : goal.overflow_cast-count
overflow_cast-count c =
    let s = c.args.self.listing.now in
    let accepted = subst (λ (e : EnforcedChart). IsAccepted e.chart) c.enforced.ensures c.facts.ensures.chart in
    let few = accepted.few_events in
    let more = told_more c.args.self.numbers.now s.judged s.allowed c.loop-x.x c.loop-x.count c.next_pairs.new.list.items c.loop-x.invariant c.in_ok-next_pairs.ensures.list in
    let less = c.loop-x-test.true in
    let all = c.events-x-end.ensures in
    let most = told_few c.args.self.numbers.now s.judged s.allowed (c.loop-x.x + 1) few (omega (arith, less, all, few)) in
    omega (arith, more, most, c.len.ensures)

pub overflow_add-count : goal.overflow_add-count
overflow_add-count c =
    let s = c.args.self.listing.now in
    let accepted = subst (λ (e : EnforcedChart). IsAccepted e.chart) c.enforced.ensures c.facts.ensures.chart in
    let few = accepted.few_events in
    let more = told_more c.args.self.numbers.now s.judged s.allowed c.loop-x.x c.loop-x.count c.next_pairs.new.list.items c.loop-x.invariant c.in_ok-next_pairs.ensures.list in
    let less = c.loop-x-test.true in
    let all = c.events-x-end.ensures in
    let most = told_few c.args.self.numbers.now s.judged s.allowed (c.loop-x.x + 1) few (omega (arith, less, all, few)) in
    omega (arith, more, most, c.len.ensures)

pub loop-x-preserved : goal.loop-x-preserved
loop-x-preserved c =
    let s = c.args.self.listing.now in
    let more = told_more c.args.self.numbers.now s.judged s.allowed c.loop-x.x c.loop-x.count c.next_pairs.new.list.items c.loop-x.invariant c.in_ok-next_pairs.ensures.list in
    omega (arith, more, c.len.ensures)

pub returns : goal.returns
returns c =
    let s = c.args.self.listing.now in
    let last = c.loop-x-test.false in
    let auto = c.loop-x.auto in
    let all = c.events-x-end.ensures in
    c.loop-x.invariant ∙ ap length (told_last c.args.self.numbers.now s.judged s.allowed c.loop-x.x (omega arith))
