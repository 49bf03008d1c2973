use Rattle.std.proofs.Common.{ℕ, ◌+◌, length, ap, ◌∙◌, arith}
use Rattle.msc_ready.specs.Held.{ReadyChart}
use Rattle.msc_print.specs.Rows.{below}
use Rattle.msc_ready.specs.Views.{blocked_pairs_from}
use Rattle.msc_text.specs.Readying.{first_in}
use Rattle.msc_text.proofs.FirstOnes.{counted_all, counted_few, counted_more, seconds_known}
use Rattle.msc_text.proofs.readying.StickTable.count_first.Goals as goal

pub first_in-requires : goal.first_in-requires
first_in-requires c =
    let all = c.events-e-end.ensures ∙ ap (λ (s : ReadyChart). length s.chart.events) c.ready.ensures in
    let less = c.loop-e-test.true in
    seconds_known c.args.self.now.blocked_pairs c.args.self.now.ahead.items c.loop-e.e c.as_slice.result.now c.as_slice-in-loop-e.result.now
    c.facts.ensures c.requires.ahead (omega (arith, less, all)) c.as_slice.ensures.value (c.as_slice-in-loop-e.ensures.value ∙ c.in_ok-next.ensures.list)

pub overflow_cast-first : goal.overflow_cast-first
overflow_cast-first c =
    let all = c.events-e-end.ensures ∙ ap (λ (s : ReadyChart). length s.chart.events) c.ready.ensures in
    let less = c.loop-e-test.true in
    let fits = c.ranges.count.fits in
    let more = counted_more c.args.self.now.blocked_pairs c.args.self.now.ahead.items c.loop-e.e c.loop-e.first c.first_in.result c.as_slice.result.now c.as_slice-in-loop-e.result.now
    c.as_slice.ensures.value (c.as_slice-in-loop-e.ensures.value ∙ c.in_ok-next.ensures.list) c.loop-e.invariant c.first_in.ensures in
    let few = counted_few c.args.self.now.blocked_pairs c.args.self.now.ahead.items (c.loop-e.e + 1) c.args.count (omega (arith, less, all)) c.requires.count in
    omega (arith, fits, more, few)

pub overflow_add-first : goal.overflow_add-first
overflow_add-first c =
    let all = c.events-e-end.ensures ∙ ap (λ (s : ReadyChart). length s.chart.events) c.ready.ensures in
    let less = c.loop-e-test.true in
    let fits = c.ranges.count.fits in
    let more = counted_more c.args.self.now.blocked_pairs c.args.self.now.ahead.items c.loop-e.e c.loop-e.first c.first_in.result c.as_slice.result.now c.as_slice-in-loop-e.result.now
    c.as_slice.ensures.value (c.as_slice-in-loop-e.ensures.value ∙ c.in_ok-next.ensures.list) c.loop-e.invariant c.first_in.ensures in
    let few = counted_few c.args.self.now.blocked_pairs c.args.self.now.ahead.items (c.loop-e.e + 1) c.args.count (omega (arith, less, all)) c.requires.count in
    omega (arith, fits, more, few)

pub loop-e-preserved : goal.loop-e-preserved
loop-e-preserved c =
    counted_more c.args.self.now.blocked_pairs c.args.self.now.ahead.items c.loop-e.e c.loop-e.first c.first_in.result c.as_slice.result.now c.as_slice-in-loop-e.result.now
    c.as_slice.ensures.value (c.as_slice-in-loop-e.ensures.value ∙ c.in_ok-next.ensures.list) c.loop-e.invariant c.first_in.ensures

pub returns : goal.returns
returns c =
    let r = c.args.self.now.blocked_pairs in
    let ahead = c.args.self.now.ahead.items in
    let all = c.events-e-end.ensures ∙ ap (λ (s : ReadyChart). length s.chart.events) c.ready.ensures in
    let last = c.loop-e-test.false in
    let auto = c.loop-e.auto in
    c.loop-e.invariant ∙ ap (λ (k : ℕ). first_in ahead (below (blocked_pairs_from r) k)) (omega (arith, last, auto, all)) ∙ counted_all r ahead
