use Rattle.std.proofs.Common.{ℕ, length, ap, sym, ◌∙◌, arith}
use Rattle.msc_chart.specs.Lists.{pairs_to}
use Rattle.msc_race.proofs.Listing.Counts.{to_few}
use Rattle.msc_ready.proofs.Listing.{test, none_of, none_up_to, none_past, counted_more, counted_same}
use Rattle.msc_ready.proofs.ready.Ready.count_from.Goals as goal
use Rattle.msc_ready.proofs.ready.Ready.count_from.Goals.{then-is_blocked_pair, else-is_blocked_pair}

pub returns-then-not-is_input : goal.returns-then-not-is_input
returns-then-not-is_input c = sym (ap length (none_of c.args.self.now c.args.e (sym c.is_input.ensures ∙ c.if-not-is_input.true)))

pub loop-f-init : goal.loop-f-init
loop-f-init c = sym (ap length (none_up_to c.args.self.now c.facts.ensures.chart.in_text_order c.args.e))

pub loop-f-preserved : goal.loop-f-preserved
loop-f-preserved c =
    let self = c.args.self.now in
    elim c.if-is_blocked_pair.branch [
      | then-is_blocked_pair w ↦ w.count-is ∙ counted_more self c.args.e c.loop-f.f c.loop-f.count (sym c.is_blocked_pair.ensures.value ∙ w.if-is_blocked_pair.true) c.loop-f.invariant
      | else-is_blocked_pair w ↦ w.count-is ∙ counted_same self c.args.e c.loop-f.f c.loop-f.count (sym c.is_blocked_pair.ensures.value ∙ w.if-is_blocked_pair.false) c.loop-f.invariant
    ]

pub overflow_add-count : goal.overflow_add-count
overflow_add-count c =
    let few = to_few (test c.args.self.now) c.args.e c.loop-f.f in
    let same = c.loop-f.invariant in
    let less = c.loop-f-test.true in
    let fits = c.line_end-end.type_inv in
    omega (arith, few, same, less, fits)

pub returns : goal.returns
returns c =
    let self = c.args.self.now in
    let ends = rw c.chart.ensures at c.line_end-end.ensures in
    let past = none_past self c.facts.ensures.chart.in_text_order c.args.e c.line_end-end.result ends in
    let last = c.loop-f-test.false in
    let auto = c.loop-f.auto in
    let later = ends.later in
    c.loop-f.invariant ∙ ap (λ (n : ℕ). length (pairs_to (test self) c.args.e n)) (omega arith) ∙ sym (ap length past)
