use Rattle.msc_parser.proofs.Wording.{mark_doubled, plain_doubled}
use Rattle.msc_parser.proofs.writing.put_doubled.Goals as goal
use Rattle.msc_parser.proofs.writing.put_doubled.Goals.{then-byte-eq39+in_ok-push, else-byte-eq39}

pub loop-byte-preserved : goal.loop-byte-preserved
loop-byte-preserved c = elim c.if-byte-eq39.branch [
  | then-byte-eq39+in_ok-push w ↦ mark_doubled c.args.bytes.now _ c.loop-byte.byte-index c.loop-byte-test.true w.if-byte-eq39.true c.loop-byte.invariant (rw w.out-is w.in_ok-push.ensures.items) c.in_ok-push-2.ensures.items
  | else-byte-eq39 w ↦ plain_doubled c.args.bytes.now _ c.loop-byte.byte-index c.loop-byte-test.true w.if-byte-eq39.false c.loop-byte.invariant (rw w.out-is at c.in_ok-push-2.ensures.items)
]
