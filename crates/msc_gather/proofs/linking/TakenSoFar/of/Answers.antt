use Rattle.std.proofs.Common.{take}
use Rattle.std.proofs.lemmas.List.{take_more}
use Rattle.msc_chart.proofs.ListLemmas.{occurs_at}
use Rattle.msc_gather.proofs.MarkLemmas.{once_at}
use Rattle.msc_gather.proofs.linking.TakenSoFar.of.Goals as goal

pub meet-requires-clause-known : goal.meet-requires-clause-known
meet-requires-clause-known c = c.requires.known _
    (occurs_at c.args.events.now c.loop-r.r-index c.loop-r-test.true)

pub loop-r-preserved : goal.loop-r-preserved
loop-r-preserved c =
    let k = c.loop-r.r-index in
    let events = c.args.events.now in
    rw (take_more events k 0 c.loop-r-test.true)
    (c.meet.ensures (take k events) (once_at events k c.requires.once c.loop-r-test.true)
    c.loop-r.invariant)
