use Rattle.std.proofs.Common.{arith}
use Rattle.msc_race.proofs.Pasts.PlaceLemmas.{found_at, further, until_short}
use Rattle.msc_race.proofs.short.place_of.Goals as goal

pub returns-then-events-k : goal.returns-then-events-k
returns-then-events-k c = found_at c.args.events.now c.args.f c.loop-k.k c.loop-k.invariant c.if-events-k.true

pub loop-k-preserved : goal.loop-k-preserved
loop-k-preserved c =
    further c.args.events.now c.args.f c.loop-k.k c.loop-k-test.true c.loop-k.invariant c.if-events-k.false

pub returns : goal.returns
returns c =
    let short = until_short c.args.events.now c.args.f in
    let so_far = c.loop-k.invariant in
    let end = c.loop-k-test.false in
    omega (arith, short, so_far, end)
