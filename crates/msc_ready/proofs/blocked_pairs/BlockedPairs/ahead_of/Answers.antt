use Rattle.std.proofs.Common.{length, ap, ◌∙◌, arith}
use Rattle.msc_ready.specs.Held.{ReadyChart}
use Rattle.msc_ready.proofs.Ahead.{more, all_below}
use Rattle.msc_ready.proofs.blocked_pairs.BlockedPairs.ahead_of.Goals as goal

pub loop-h-preserved : goal.loop-h-preserved
loop-h-preserved c = rw c.lesser-least.ensures (more c.args.self.now c.args.f c.loop-h.h c.loop-h.least c.ahead_with.result c.loop-h.invariant c.ahead_with.ensures)

pub returns : goal.returns
returns c =
    let last = c.loop-h-test.false in
    let all = c.events-h-end.ensures ∙ ap (λ (r : ReadyChart). length r.chart.events) c.self.view_is in
    all_below c.args.self.now c.args.f c.loop-h.h c.loop-h.least (omega (arith, last, all)) c.loop-h.invariant
