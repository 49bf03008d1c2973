use Rattle.std.proofs.Common.{ℕ, ◌<◌, ◌∙◌, arith}
use Rattle.std.proofs.Math.Facts.{Fits-of_lt}
use Rattle.msc_chart.specs.Wirings.{size, wired_by}
use Rattle.msc_chart.proofs.Numbers.{count-less}
use Rattle.msc_chart.proofs.Drawn.{output_parts}
use Rattle.bit_rows.specs.Rows.{has}
use Rattle.bit_rows.specs.Tables.{cell}
use Rattle.bit_rows.proofs.Bits.{words_few}
use Rattle.bit_rows.proofs.Cells.{row_fits}
use Rattle.bit_rows.proofs.Rows.{above_further, has_at}
use Rattle.msc_order.proofs.Taking.{moved_none, moved_one, moved_more, seen_fewer, less_left, less_gone}
use Rattle.msc_order.proofs.queueing.take_word.Goals as goal

pub lowest_in-c-requires-clause-few : goal.lowest_in-c-requires-clause-few
lowest_in-c-requires-clause-few c =
    let row = c.requires.row in
    let same = c.loop-left.auto.left in
    let inside = c.requires.word in
    let bits = words_few (size c.args.wiring.now) in
    let few = c.events-events.ensures.accepted.few_events in
    omega (arith, row, same, inside, bits, few)

pub overflow_cast-k : goal.overflow_cast-k
overflow_cast-k c =
    let row = c.requires.row in
    let same = c.loop-left.auto.left in
    let inside = c.requires.word in
    let bits = words_few (size c.args.wiring.now) in
    let few = c.events-events.ensures.accepted.few_events in
    let small : c.args.k < 4294967296 = omega (arith, row, same, inside, bits, few) in
    Fits-of_lt small

pub drop_row-requires-clause-column : goal.drop_row-requires-clause-column
drop_row-requires-clause-column c =
    let there = has_at c.loop-left.left c.lowest_in-c.result c.args.k c.lowest_in-c.ensures.place ∙ c.lowest_in-c.ensures.itself in
    rw c.events-events.ensures.number (output_parts c.args.wiring.now.chart.now.events c.lowest_in-c.result (c.requires.seen.seen c.lowest_in-c.result (c.loop-left.invariant.moved.fewer c.lowest_in-c.result there)).0).0

pub drop_row-requires-clause-row : goal.drop_row-requires-clause-row
drop_row-requires-clause-row c =
    let n : ℕ = size c.args.wiring.now in
    let there = has_at c.loop-left.left c.lowest_in-c.result c.args.k c.lowest_in-c.ensures.place ∙ c.lowest_in-c.ensures.itself in
    rw c.events-events.ensures.number (row_fits n c.args.words.now n c.lowest_in-c.result c.requires.square
    (output_parts c.args.wiring.now.chart.now.events c.lowest_in-c.result (c.requires.seen.seen c.lowest_in-c.result (c.loop-left.invariant.moved.fewer c.lowest_in-c.result there)).0).0)

pub take_input-requires-clause-known : goal.take_input-requires-clause-known
take_input-requires-clause-known c =
    let there = has_at c.loop-left.left c.lowest_in-c.result c.args.k c.lowest_in-c.ensures.place ∙ c.lowest_in-c.ensures.itself in
    (output_parts c.args.wiring.now.chart.now.events c.lowest_in-c.result (c.requires.seen.seen c.lowest_in-c.result (c.loop-left.invariant.moved.fewer c.lowest_in-c.result there)).0).0

pub loop-left-init : goal.loop-left-init
loop-left-init c = record {
  moved = moved_none (wired_by c.args.wiring.now) (has c.args.left.now) (has c.args.taken.now);
  above = c.requires.above;
}

pub loop-left-smaller : goal.loop-left-smaller
loop-left-smaller c =
    let w = c.args.wiring.now in
    let d : ℕ = c.lowest_in-c.result in
    let left = has c.loop-left.left in
    let less = has c.drop_row.new.left in
    let there = has_at c.loop-left.left d c.args.k c.lowest_in-c.ensures.place ∙ c.lowest_in-c.ensures.itself in
    let drop = rw c.events-events.ensures.number at c.drop_row.ensures in
    count-less left less (size w) d (λ k below h. less_left (cell (size w) c.args.words.now) d left less drop k h)
    (output_parts w.chart.now.events d (c.requires.seen.seen d (c.loop-left.invariant.moved.fewer d there)).0).0 there
    (less_gone (cell (size w) c.args.words.now) d left less drop)

pub loop-left-preserved : goal.loop-left-preserved
loop-left-preserved c =
    let w = c.args.wiring.now in
    let d : ℕ = c.lowest_in-c.result in
    let test = cell (size w) c.args.words.now in
    let left = has c.loop-left.left in
    let less = has c.drop_row.new.left in
    let there = has_at c.loop-left.left d c.args.k c.lowest_in-c.ensures.place ∙ c.lowest_in-c.ensures.itself in
    let drop = rw c.events-events.ensures.number at c.drop_row.ensures in
    let was = c.loop-left.invariant in
    let seen = seen_fewer (wired_by w) test (has c.args.left.now) left was.moved.fewer c.requires.seen in
    let one = moved_one (wired_by w) test d left less (has c.loop-left.taken) (has c.take_input.new.taken) c.requires.between seen there drop c.take_input.ensures in
    record {
      moved = moved_more (wired_by w) (has c.args.left.now) left less (has c.args.taken.now) (has c.loop-left.taken) (has c.take_input.new.taken) was.moved one;
      above = λ x h. was.above x (less_left test d left less drop x h);
    }

pub returns-clause-above : goal.returns-clause-above
returns-clause-above c =
    above_further c.loop-left.left c.args.k c.loop-left.invariant.above c.loop-left-test.false
