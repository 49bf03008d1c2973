use Rattle.msc_gather.proofs.LinkLemmas.{joined_more}
use Rattle.msc_gather.proofs.linking.joined.Goals as goal

pub loop-log-preserved : goal.loop-log-preserved
loop-log-preserved c =
    joined_more (λ v. v.items) c.args.logs.now c.loop-log.log-index c.log-item.result _ _ _
    c.loop-log-test.true
    c.log-item.is c.loop-log.invariant c.in_ok-extend_from_slice.ensures.items
    c.as_slice.ensures.value
