use Rattle.std.proofs.Common.{length, sym, ◌∙◌, arith}
use Rattle.msc_chart.specs.Runs.{is_waiting}
use Rattle.msc_ready.specs.Held.{wiring_of}
use Rattle.msc_ready.proofs.Begun.Heads.{first_passes, head_none, none_passes}
use Rattle.msc_ready.proofs.beginning.first_waiting.Goals as goal

pub returns-then-waits : goal.returns-then-waits
returns-then-waits c =
    let chart = wiring_of c.args.ready.now in
    let run = c.args.run.now in
    first_passes (is_waiting chart c.args.q run) (length c.args.ready.now.chart.events) run c.loop-x.x-index c.loop-x.invariant c.loop-x-test.true
    (sym (c.waits.ensures run c.requires.marks) ∙ c.if-waits.true)

pub returns : goal.returns
returns c =
    let chart = wiring_of c.args.ready.now in
    let run = c.args.run.now in
    let last = c.loop-x-test.false in
    head_none (length c.args.ready.now.chart.events) _ c.events.result
    (none_passes (is_waiting chart c.args.q run) run (λ k below. c.loop-x.invariant k (omega (arith, below, last)))) c.events.ensures
