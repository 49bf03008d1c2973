use Rattle.std.proofs.Common.{None, sym, ◌∙◌, arith}
use Rattle.std.proofs.lemmas.List.{get_or_default}
use Rattle.msc_chart.specs.Wirings.{wired_by}
use Rattle.msc_chart.proofs.Drawn.{input_not_local}
use Rattle.msc_chart.proofs.KindTests.{input_from_rest}
use Rattle.msc_gather.proofs.TakenLemmas.{taken_other, taken_input}
use Rattle.msc_gather.proofs.linking.TakenSoFar.meet.Goals as goal

pub returns-then-is_controlled : goal.returns-then-is_controlled
returns-then-is_controlled c = λ list new holds.
    let is_wired = c.ends_share_queues.ensures c.args.w.now.queues c.args.w.now.chart.now
    c.facts.ensures in
    taken_other (wired_by c.args.w.now) is_wired c.args.r
    (sym c.is_controlled.ensures ∙ c.if-is_controlled.true) holds

pub queue-q-requires-clause-message : goal.queue-q-requires-clause-message
queue-q-requires-clause-message c =
    let other = sym c.is_controlled.ensures ∙ c.if-is_controlled.false in
    let input = input_from_rest c.args.w.now.chart.now.events c.args.r c.requires.known other in
    input_not_local c.args.w.now.chart.now.events c.args.r input

pub index-requires : goal.index-requires
index-requires c =
    let other = sym c.is_controlled.ensures ∙ c.if-is_controlled.false in
    let input = input_from_rest c.args.w.now.chart.now.events c.args.r c.requires.known other in
    let inside = c.requires.queues c.args.r c.requires.known
    (input_not_local c.args.w.now.chart.now.events c.args.r input) in
    omega (arith, inside, c.queue-q.ensures, c.args.self.now.last.ok.0)

pub index_mut-requires-2 : goal.index_mut-requires-2
index_mut-requires-2 c =
    let other = sym c.is_controlled.ensures ∙ c.if-is_controlled.false in
    let input = input_from_rest c.args.w.now.chart.now.events c.args.r c.requires.known other in
    let inside = c.requires.queues c.args.r c.requires.known
    (input_not_local c.args.w.now.chart.now.events c.args.r input) in
    omega (arith, inside, c.queue-q.ensures, c.args.self.now.last.ok.0)

pub returns : goal.returns
returns c = λ list new holds.
    let is_wired = c.ends_share_queues.ensures c.args.w.now.queues c.args.w.now.chart.now
    c.facts.ensures in
    let other = sym c.is_controlled.ensures ∙ c.if-is_controlled.false in
    let input = input_from_rest c.args.w.now.chart.now.events c.args.r c.requires.known other in
    let inside = c.requires.queues c.args.r c.requires.known
    (input_not_local c.args.w.now.chart.now.events c.args.r input) in
    let read = c.index.ensures
    ∙ get_or_default c.args.self.now.last.items c.queue-q.result c.index.result.now None
    (omega (arith, inside, c.queue-q.ensures)) in
    rw (read, c.queue-q.ensures, c.other_end-s.ensures.value)
    (taken_input (wired_by c.args.w.now) is_wired c.args.r input new holds)
