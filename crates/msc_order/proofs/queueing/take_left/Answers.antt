use Rattle.std.proofs.Common.{arith}
use Rattle.msc_chart.specs.Wirings.{size, wired_by}
use Rattle.bit_rows.specs.Tables.{cell}
use Rattle.bit_rows.specs.Rows.{has}
use Rattle.bit_rows.proofs.Bits.{clash}
use Rattle.bit_rows.proofs.Rows.{above_further, has_past}
use Rattle.msc_order.proofs.Taking.{moved_none, moved_more, seen_fewer, all_moved}
use Rattle.msc_order.proofs.queueing.take_left.Goals as goal
use Rattle.msc_order.proofs.queueing.take_left.Goals.{then-left-k-ne0, else-left-k-ne0}

pub loop-k-init : goal.loop-k-init
loop-k-init c = record {
  moved = moved_none (wired_by c.args.wiring.now) (has c.args.left.now) (has c.args.taken.now);
  above = λ d h. omega arith;
}

pub take_word-requires-clause-seen : goal.take_word-requires-clause-seen
take_word-requires-clause-seen c =
    let w = c.args.wiring.now in
    seen_fewer (wired_by w) (cell (size w) c.args.words.now) (has c.args.left.now) (has c.loop-k.left) c.loop-k.invariant.moved.fewer c.requires.seen

pub loop-k-preserved : goal.loop-k-preserved
loop-k-preserved c =
    let w = c.args.wiring.now in
    let was = c.loop-k.invariant in
    elim c.if-left-k-ne0.branch [
      | then-left-k-ne0 t ↦ rw (t.taken-is, t.left-is) record {
        moved = moved_more (wired_by w) (has c.args.left.now) (has c.loop-k.left) (has t.take_word.new.left) (has c.args.taken.now) (has c.loop-k.taken)
            (has t.take_word.new.taken) was.moved t.take_word.ensures.moved;
        above = t.take_word.ensures.above;
      }
      | else-left-k-ne0 t ↦ rw (t.taken-is, t.left-is) record {
        moved = was.moved;
        above = above_further c.loop-k.left c.loop-k.k was.above t.if-left-k-ne0.false;
      }
    ]

pub returns : goal.returns
returns c =
    let w = c.args.wiring.now in
    all_moved (wired_by w) (has c.args.left.now) (has c.loop-k.left) (has c.args.taken.now) (has c.loop-k.taken) c.loop-k.invariant.moved
    (λ d h.
    let low = c.loop-k.invariant.above d h in
    let out = c.loop-k-test.false in
    clash h (has_past c.loop-k.left d (omega (arith, low, out))))
    c.requires.blank
