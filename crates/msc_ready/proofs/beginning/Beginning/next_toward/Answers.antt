use Rattle.std.proofs.Common.{length, sym, ◌∙◌, inl, inr}
use Rattle.msc_ready.specs.Held.{wiring_of, ready_in}
use Rattle.msc_ready.proofs.Runs.Keeping.{HaveOneLine}
use Rattle.msc_ready.proofs.Begun.Marks.{mark_read}
use Rattle.msc_ready.proofs.Begun.Toward.{comes_toward, if_none}
use Rattle.msc_ready.proofs.beginning.Beginning.next_toward.Goals as goal

pub returns-then-index : goal.returns-then-index
returns-then-index c =
    let r = c.args.ready.now in
    let self = c.args.self.now in
    let there = mark_read (length r.chart.events) self.run.items self.done.items c.args.t c.index.result.now c.requires.held.marks c.requires.known c.index.ensures in
    record { some = tt; none = λ e f first is outs. sym there ∙ c.if-index.true }

pub returns-in-None-clause-none : goal.returns-in-None-clause-none
returns-in-None-clause-none c = λ e f first is outs.
    let r = c.args.ready.now in
    let self = c.args.self.now in
    let accepted = c.facts.ensures.chart in
    let is_wired = c.ends_share_queues.ensures r.queues r.chart accepted in
    let lines : HaveOneLine (wiring_of r) = λ x y ix iy. c.inputs_share_lines.ensures r.queues r.chart x y accepted ix iy in
    let there = mark_read (length r.chart.events) self.run.items self.done.items c.args.t c.index.result.now c.requires.held.marks c.requires.known c.index.ensures in
    let next = comes_toward (wiring_of r) is_wired lines accepted.acyclic (ready_in r) e f c.args.t first is self.run.items c.requires.held.is_run outs (sym there ∙ c.if-index.false) in
    if_none _ c.least_next-in-None.result c.least_next-in-None.ensures (λ none. absurd (elim next.1.1 [
      | inl up ↦ c.in-None.ensures next.0 (up, next.1.0)
      | inr i ↦ none next.0 (i, next.1.0)
    ]))
