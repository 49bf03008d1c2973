use Rattle.msc_gather.proofs.BestLemmas.{best_begins, best_more}
use Rattle.msc_gather.proofs.merging.Merge.next.Goals as goal

pub loop-i-init : goal.loop-i-init
loop-i-init c = best_begins _ _ _

pub loop-i-preserved : goal.loop-i-preserved
loop-i-preserved c =
    best_more _ _ _ _ _ _ _ c.loop-i.invariant c.head.ensures.some c.head.ensures.least
    c.lesser-best.ensures.none c.lesser-best.ensures.other c.lesser-best.ensures.both
