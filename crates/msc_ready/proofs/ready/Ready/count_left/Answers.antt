use Rattle.std.proofs.Common.{ℕ, length, ap, sym, ◌∙◌, arith}
use Rattle.msc_race.proofs.Listing.Pairs.{below_all, below_none}
use Rattle.msc_ready.proofs.Left.{left_below}
use Rattle.msc_ready.proofs.ready.Ready.count_left.Goals as goal

pub loop-e-init : goal.loop-e-init
loop-e-init c = record { few = omega arith; number = λ left told. sym (ap length (below_none left (length c.args.self.now.chart.events))) }

pub overflow_add-total : goal.overflow_add-total
overflow_add-total c =
    let all_few = c.facts.ensures.chart.few_events in
    let few = c.loop-e.invariant.few in
    let one = c.count_left_from-total.ensures.few in
    let less = c.loop-e-test.true in
    let all = c.events-e-end.ensures in
    omega (arith, all_few, few, one, less, all)

pub loop-e-preserved : goal.loop-e-preserved
loop-e-preserved c =
    let all_few = c.facts.ensures.chart.few_events in
    let few = c.loop-e.invariant.few in
    let one = c.count_left_from-total.ensures.few in
    record {
      few = omega (arith, all_few, few, one);
      number = λ left told. left_below left (length c.args.self.now.chart.events) c.loop-e.e _ _ (c.loop-e.invariant.number left told) (c.count_left_from-total.ensures.number left told);
    }

pub returns : goal.returns
returns c left told =
    let n : ℕ = length c.args.self.now.chart.events in
    let last = c.loop-e-test.false in
    let auto = c.loop-e.auto in
    let all = c.events-e-end.ensures in
    c.loop-e.invariant.number left told ∙ ap length (below_all left n c.loop-e.e (omega arith))
