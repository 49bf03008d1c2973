use Rattle.std.proofs.Common.{ℕ, None, replicate, sym, ap, ◌∙◌, arith, rules}
use Rattle.std.proofs.lemmas.List.{get_or_default}
use Rattle.std.proofs.lemmas.Grind.{get_or_default_zero}
use Rattle.msc_chart.specs.Wirings.{wired_by}
use Rattle.msc_picture.proofs.Events.{output_quiet}
use Rattle.msc_picture.proofs.Laying.{event_there, event_new, queue_there}
use Rattle.msc_picture.proofs.QueuedLemmas.{noted_none, noted_quiet, noted_output, noted_all}
use Rattle.msc_picture.proofs.run.queued_of.Goals as goal

pub loop-x-init : goal.loop-x-init
loop-x-init c =
    noted_none (wired_by c.args.w.now) c.args.run.now _ _ _ _ c.events.ensures.number
    (c.in_ok-after.ensures.items_if_clones_equal (λ y e. search rules))
    (c.in_ok-lasts.ensures.items_if_clones_equal (λ y e. search rules)
    ∙ ap (λ (k : ℕ). replicate k None) c.queue_count.ensures.value)

pub is_output-requires : goal.is_output-requires
is_output-requires c =
    event_there (wired_by c.args.w.now) c.args.run.now c.requires.run c.loop-x.x-index
    c.loop-x-test.true

pub loop-x-preserved-then-not-is_output : goal.loop-x-preserved-then-not-is_output
loop-x-preserved-then-not-is_output c =
    noted_quiet c.loop-x.invariant c.loop-x-test.true
    (sym (get_or_default_zero c.args.run.now c.loop-x.x-index _ c.loop-x-test.true))
    (event_there (wired_by c.args.w.now) c.args.run.now c.requires.run c.loop-x.x-index
    c.loop-x-test.true)
    (event_new (wired_by c.args.w.now) c.args.run.now c.requires.run c.loop-x.x-index
    c.loop-x-test.true)
    (sym c.is_output.ensures ∙ c.if-not-is_output.true)

pub queue-queue-requires-clause-known : goal.queue-queue-requires-clause-known
queue-queue-requires-clause-known c =
    event_there (wired_by c.args.w.now) c.args.run.now c.requires.run c.loop-x.x-index
    c.loop-x-test.true

pub queue-queue-requires-clause-message : goal.queue-queue-requires-clause-message
queue-queue-requires-clause-message c =
    output_quiet c.args.w.now.chart.now.events _ c.is_output.result
    (event_there (wired_by c.args.w.now) c.args.run.now c.requires.run c.loop-x.x-index
    c.loop-x-test.true) c.is_output.ensures c.if-not-is_output.false

pub index-requires : goal.index-requires
index-requires c =
    let within = queue_there (wired_by c.args.w.now) c.args.run.now c.requires.run c.loop-x.x-index
    c.queue-queue.result c.queue_count.result _ c.loop-x-test.true
    (sym c.is_output.ensures ∙ c.if-not-is_output.false) c.queue_count.ensures.past
    c.queue-queue.ensures c.queue_count.ensures.value in
    omega (arith, within, c.loop-x.invariant.lasts_long, c.loop-x.lasts.ok.0)

pub index_mut-requires : goal.index_mut-requires
index_mut-requires c =
    let known = event_there (wired_by c.args.w.now) c.args.run.now c.requires.run c.loop-x.x-index
    c.loop-x-test.true in
    omega (arith, known, c.loop-x.invariant.after_long, c.loop-x.after.ok.0)

pub index_mut-requires-in-loop-x : goal.index_mut-requires-in-loop-x
index_mut-requires-in-loop-x c =
    let within = queue_there (wired_by c.args.w.now) c.args.run.now c.requires.run c.loop-x.x-index
    c.queue-queue.result c.queue_count.result _ c.loop-x-test.true
    (sym c.is_output.ensures ∙ c.if-not-is_output.false) c.queue_count.ensures.past
    c.queue-queue.ensures c.queue_count.ensures.value in
    omega (arith, within, c.loop-x.invariant.lasts_long, c.loop-x.lasts.ok.0)

pub loop-x-preserved : goal.loop-x-preserved
loop-x-preserved c =
    let out = sym c.is_output.ensures ∙ c.if-not-is_output.false in
    let within = queue_there (wired_by c.args.w.now) c.args.run.now c.requires.run c.loop-x.x-index
    c.queue-queue.result c.queue_count.result _ c.loop-x-test.true out c.queue_count.ensures.past
    c.queue-queue.ensures c.queue_count.ensures.value in
    noted_output c.loop-x.invariant c.loop-x-test.true
    (sym (get_or_default_zero c.args.run.now c.loop-x.x-index _ c.loop-x-test.true))
    (event_there (wired_by c.args.w.now) c.args.run.now c.requires.run c.loop-x.x-index
    c.loop-x-test.true)
    (event_new (wired_by c.args.w.now) c.args.run.now c.requires.run c.loop-x.x-index
    c.loop-x-test.true)
    out c.queue-queue.result c.queue-queue.ensures within c.index.result.now
    (c.index.ensures ∙ get_or_default c.loop-x.lasts.items c.queue-queue.result _ None
    (omega (arith, within, c.loop-x.invariant.lasts_long)))

pub returns : goal.returns
returns c =
    noted_all (wired_by c.args.w.now) c.args.run.now _ _ _ c.loop-x.x-index c.loop-x-test.false
    c.requires.whole c.loop-x.invariant
