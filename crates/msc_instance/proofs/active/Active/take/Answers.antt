use Rattle.std.proofs.Common.{◌≡◌, true, sym, ap, ◌∙◌, arith}
use Rattle.msc_chart.specs.Lists.{occurs}
use Rattle.msc_chart.proofs.ListLemmas.{clash}
use Rattle.msc_instance.proofs.Takes.{took_nothing, took_ended, took_strange, took_input, input_fits, queue_here, event_in, input_here}
use Rattle.msc_instance.proofs.Asked.{let_more, ends_at_input}
use Rattle.msc_instance.proofs.active.Active.take.Goals as goal

pub returns-in-Nothing-clause-took : goal.returns-in-Nothing-clause-took
returns-in-Nothing-clause-took g c =
    took_nothing c.args.chart.now c.args.post.now c.args.self.now c.requires.sound c.args.k
    c.index_mut.result.now c.take_one.new.inlet c.requires.inlet
    (rw (← c.index_mut.ensures.value) c.in-Nothing.ensures)

pub returns-in-Ended-clause-took : goal.returns-in-Ended-clause-took
returns-in-Ended-clause-took g c =
    took_ended c.args.chart.now c.args.post.now c.args.self.now c.requires.sound c.args.k
    c.index_mut.result.now c.take_one.new.inlet c.requires.inlet
    c.in-Ended.field-0 (rw (← c.index_mut.ensures.value) c.in-Ended.ensures)

pub returns-then-not-is_of-clause-took : goal.returns-then-not-is_of-clause-took
returns-then-not-is_of-clause-took g c =
    let q = queue_here c.args.self.now.inlets.items c.args.k c.index.result.now c.index_mut.result.now
    c.requires.inlet c.index.ensures in
    took_strange c.args.chart.now c.args.post.now c.args.self.now c.requires.sound c.args.k
    c.index_mut.result.now c.take_one.new.inlet c.requires.inlet
    c.in-Message.field-0 c.in-Message.m c.in-Message.field-2 c.in-Message.clock
    (rw (← c.index_mut.ensures.value) c.in-Message.ensures)
    (λ is. clash (c.is_of.ensures.1 (is.0, is.1 ∙ sym q)) c.if-not-is_of.true)

pub has-requires : goal.has-requires
has-requires g c =
    let q = queue_here c.args.self.now.inlets.items c.args.k c.index.result.now c.index_mut.result.now
    c.requires.inlet c.index.ensures in
    let is = c.is_of.ensures.0 c.if-not-is_of.false in
    let below = event_in c.args.chart.now c.args.post.now c.args.self.now c.requires.sound
    c.in-Message.m is.0 in
    omega (arith, below, c.input_of-e.ensures)

pub returns-then-has-clause-took : goal.returns-then-has-clause-took
returns-then-has-clause-took g c =
    took_strange c.args.chart.now c.args.post.now c.args.self.now c.requires.sound c.args.k
    c.index_mut.result.now c.take_one.new.inlet c.requires.inlet
    c.in-Message.field-0 c.in-Message.m c.in-Message.field-2 c.in-Message.clock
    (rw (← c.index_mut.ensures.value) c.in-Message.ensures)
    (λ is. ap (occurs c.args.self.now.journal.log.items) (sym c.input_of-e.ensures) ∙ sym c.has.ensures
    ∙ c.if-has.true)

pub note-requires-clause-event : goal.note-requires-clause-event
note-requires-clause-event g c =
    let is = c.is_of.ensures.0 c.if-not-is_of.false in
    let below = event_in c.args.chart.now c.args.post.now c.args.self.now c.requires.sound
    c.in-Message.m is.0 in
    omega (arith, below, c.input_of-e.ensures)

pub note-requires-clause-room : goal.note-requires-clause-room
note-requires-clause-room g c =
    let q = queue_here c.args.self.now.inlets.items c.args.k c.index.result.now c.index_mut.result.now
    c.requires.inlet c.index.ensures in
    let is = c.is_of.ensures.0 c.if-not-is_of.false in
    let fresh = ap (occurs c.args.self.now.journal.log.items) (sym c.input_of-e.ensures)
    ∙ sym c.has.ensures ∙ c.if-has.false in
    input_fits c.args.chart.now c.args.post.now c.args.self.now c.requires.sound c.args.k
    c.index_mut.result.now c.take_one.new.inlet c.requires.inlet
    c.in-Message.m is.0 (is.1 ∙ q) fresh

pub returns-then-at-clause-took : goal.returns-then-at-clause-took
returns-then-at-clause-took g c =
    let q = queue_here c.args.self.now.inlets.items c.args.k c.index.result.now c.index_mut.result.now
    c.requires.inlet c.index.ensures in
    let is = c.is_of.ensures.0 c.if-not-is_of.false in
    let fresh = ap (occurs c.args.self.now.journal.log.items) (sym c.input_of-e.ensures)
    ∙ sym c.has.ensures ∙ c.if-has.false in
    took_input c.args.chart.now c.args.post.now c.args.self.now c.requires.sound c.args.k
    c.index_mut.result.now c.take_one.new.inlet c.requires.inlet
    c.in-Message.m is.0 (is.1 ∙ q) fresh c.in-Message.field-0 c.in-Message.field-2 c.in-Message.clock
    c.note.new.self
    (rw (← c.index_mut.ensures.value) c.in-Message.ensures)
    (rw (← c.input_of-e.ensures) c.note.ensures.noted) c.note.ensures.room

pub returns-else-at-clause-took : goal.returns-else-at-clause-took
returns-else-at-clause-took g c =
    let q = queue_here c.args.self.now.inlets.items c.args.k c.index.result.now c.index_mut.result.now
    c.requires.inlet c.index.ensures in
    let is = c.is_of.ensures.0 c.if-not-is_of.false in
    let fresh = ap (occurs c.args.self.now.journal.log.items) (sym c.input_of-e.ensures)
    ∙ sym c.has.ensures ∙ c.if-has.false in
    (took_input c.args.chart.now c.args.post.now c.args.self.now c.requires.sound c.args.k
    c.index_mut.result.now c.take_one.new.inlet c.requires.inlet
    c.in-Message.m is.0 (is.1 ∙ q) fresh c.in-Message.field-0 c.in-Message.field-2 c.in-Message.clock
    c.note.new.self
    (rw (← c.index_mut.ensures.value) c.in-Message.ensures)
    (rw (← c.input_of-e.ensures) c.note.ensures.noted) c.note.ensures.room).0

pub returns-else-at-clause-open : goal.returns-else-at-clause-open
returns-else-at-clause-open g c =
    λ gate other. let yes : c.at.result ≡ true = c.at.ensures.open gate in
    cc

pub returns-then-at-clause-asked : goal.returns-then-at-clause-asked
returns-then-at-clause-asked g c = λ _. let_more (g.G.Gate.lets c.args.gate.now) c.args.post.now.instance _ _ _
    c.note.ensures.noted (c.at.ensures.asked c.if-at.true)

pub returns-else-at-clause-last : goal.returns-else-at-clause-last
returns-else-at-clause-last g c = λ _. ends_at_input (g.G.Gate.lets c.args.gate.now) c.args.post.now.instance _ _ _
    c.note.ensures.noted c.args.chart.now
    (rw c.input_of-e.ensures (input_here c.args.chart.now c.args.post.now c.args.self.now c.requires.sound c.in-Message.m
    (c.is_of.ensures.0 c.if-not-is_of.false).0))
