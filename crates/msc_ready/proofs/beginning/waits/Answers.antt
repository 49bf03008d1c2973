use Rattle.std.proofs.Common.{ℕ, false, get_or, ap, sym, ◌∙◌}
use Rattle.msc_race.proofs.Runs.EventLemmas.{output_not_local}
use Rattle.msc_ready.specs.Held.{wiring_of}
use Rattle.msc_ready.proofs.Begun.Heads.{waits_not_output, waits_not_here, waits_while}
use Rattle.msc_ready.proofs.beginning.waits.Goals as goal

pub returns-then-not-is_output : goal.returns-then-not-is_output
returns-then-not-is_output c = λ run marks.
    let out = rw c.chart-chart.ensures at (sym c.is_output.ensures ∙ c.if-not-is_output.true) in
    waits_not_output (wiring_of c.args.ready.now) c.args.q _ run c.args.done.now marks c.args.x out

pub queue-requires-clause-message : goal.queue-requires-clause-message
queue-requires-clause-message c =
    let o = rw c.chart-chart.ensures at (sym c.is_output.ensures ∙ c.if-not-is_output.false) in
    output_not_local _ _ o

pub returns-then-queue-q : goal.returns-then-queue-q
returns-then-queue-q c = λ run marks.
    let at = c.queue.ensures in
    waits_not_here (wiring_of c.args.ready.now) c.args.q _ run c.args.done.now marks c.args.x (λ same. c.if-queue-q.true (at ∙ same))

pub returns : goal.returns
returns c = λ run marks.
    let chart = wiring_of c.args.ready.now in
    let at = c.queue.ensures in
    let o = rw c.chart-chart.ensures at (sym c.is_output.ensures ∙ c.if-not-is_output.false) in
    let other = rw c.chart-chart.ensures at c.other_end.ensures.value in
    let within = c.facts.ensures.chart.matched.in_range c.args.x c.requires.known in
    waits_while chart c.args.q _ run c.args.done.now marks c.args.x (get_or c.args.done.now c.other_end.result false) o (sym at ∙ c.if-queue-q.false) within
    (ap (λ (k : ℕ). get_or c.args.done.now k false) other)
