use Rattle.std.proofs.Common.{◌<◌, length, arith}
use Rattle.std.proofs.lemmas.Grind.{get_or_default_zero}
use Rattle.msc_chart.proofs.SortingLemmas.{order_within}
use Rattle.msc_chart.proofs.linear.follow.Goals as goal

pub put_opened-requires-clause-event : goal.put_opened-requires-clause-event
put_opened-requires-clause-event c =
    let below : c.loop-place.place < length c.loop-place.sorting.order.items = omega arith in
    let w = order_within _ _ _ _ _ c.loop-place.invariant.sorting.0 c.loop-place.place below in
    let z = get_or_default_zero c.loop-place.sorting.order.items c.loop-place.place c.index.result.now below in
    omega (arith, w, z)
