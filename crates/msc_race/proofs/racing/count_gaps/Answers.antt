use Rattle.std.proofs.Common.{◌≡◌, ℕ, ◌*◌, ◌/◌, ◌+◌, length, min, sym, ap, ◌∙◌, arith}
use Rattle.std.proofs.lemmas.Grind.{div_ceil_times}
use Rattle.msc_chart.specs.Lists.{pairs_to}
use Rattle.msc_race.specs.Gaps.{is_gap}
use Rattle.msc_race.proofs.Listing.Counts.{gaps_counted, to_few}
use Rattle.msc_race.proofs.Listing.Gaps.{no_gaps_yet}
use Rattle.msc_race.proofs.racing.count_gaps.Goals as goal

pub returns-then-start-end : goal.returns-then-start-end
returns-then-start-end c e = sym (ap length (no_gaps_yet c.args.row.now c.args.start c.args.end e c.args.end c.if-start-end.true))

pub loop-w-init : goal.loop-w-init
loop-w-init c e =
    sym (ap length (no_gaps_yet c.args.row.now c.args.start c.args.end e (min (64 * (c.args.start / 64)) c.args.end) (omega arith)))

pub overflow_add-count : goal.overflow_add-count
overflow_add-count c =
    let gap = is_gap c.args.row.now c.args.start in
    let words = div_ceil_times c.args.end 64 (omega arith) in
    let test = c.loop-w-test.true in
    let count = c.div_ceil-w-end.ensures in
    let more = gaps_counted c.args.row.now c.args.start c.args.end 0 c.loop-w.w c.zeros_in.result (omega (arith, words, test, count)) (omega arith) c.zeros_in.ensures in
    let few = to_few gap 0 (min (64 * (c.loop-w.w + 1)) c.args.end) in
    let before = c.loop-w.invariant 0 in
    omega (arith, more, few, before)

pub loop-w-preserved : goal.loop-w-preserved
loop-w-preserved c e =
    let words = div_ceil_times c.args.end 64 (omega arith) in
    let test = c.loop-w-test.true in
    let count = c.div_ceil-w-end.ensures in
    let more = gaps_counted c.args.row.now c.args.start c.args.end e c.loop-w.w c.zeros_in.result (omega (arith, words, test, count)) (omega arith) c.zeros_in.ensures in
    let before = c.loop-w.invariant e in
    omega (arith, more, before)

pub returns : goal.returns
returns c e =
    let words = div_ceil_times c.args.end 64 (omega arith) in
    let last = c.loop-w-test.false in
    let count = c.div_ceil-w-end.ensures in
    let all : min (64 * c.loop-w.w) c.args.end ≡ c.args.end = omega (arith, words, last, count) in
    c.loop-w.invariant e ∙ ap (λ (n : ℕ). length (pairs_to (is_gap c.args.row.now c.args.start) e n)) all
