use Rattle.msc_follow.proofs.Joining.{closed_none, closed_more}
use Rattle.msc_follow.proofs.closing.close.Goals as goal

pub loop-k-init : goal.loop-k-init
loop-k-init c = closed_none c.args.n c.args.words.now

pub loop-k-preserved : goal.loop-k-preserved
loop-k-preserved c = closed_more c.args.n c.args.words.now c.loop-k.words c.join_rows.new.words c.loop-k.k c.loop-k-test.true c.loop-k.invariant c.join_rows.ensures
