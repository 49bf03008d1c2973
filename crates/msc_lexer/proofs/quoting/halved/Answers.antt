use Rattle.msc_lexer.proofs.Quotes.{halved_more, mark_step, plain_step}
use Rattle.msc_lexer.proofs.quoting.halved.Goals as goal
use Rattle.msc_lexer.proofs.quoting.halved.Goals.{then-byte-eq39, else-byte-eq39}

pub loop-at-preserved : goal.loop-at-preserved
loop-at-preserved c = rw c.in_ok-push.ensures.items (elim c.if-byte-eq39.branch [
  | then-byte-eq39 w ↦ halved_more c.args.bytes.now c.loop-at.at _ c.loop-at.held.items c.loop-at-test.true c.loop-at.invariant (mark_step _ _ w.if-byte-eq39.true w.at-is)
  | else-byte-eq39 w ↦ halved_more c.args.bytes.now c.loop-at.at _ c.loop-at.held.items c.loop-at-test.true c.loop-at.invariant (plain_step _ _ w.if-byte-eq39.false w.at-is)
])
