use Rattle.std.proofs.Common.{length, arith}
use Rattle.msc_chart.proofs.CycleLemmas.{begun_sound}
use Rattle.msc_chart.proofs.cycle.reach.Goals as goal

pub search-requires-clause-sound : goal.search-requires-clause-sound
search-requires-clause-sound c =
    begun_sound (length c.args.low.now) _ _ _ c.requires.matched c.requires.lines c.requires.from c.requires.few (omega arith) (λ k below. c.loop-segment.invariant k (omega arith))
