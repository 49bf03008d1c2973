use Rattle.std.proofs.Common.{◌<◌, ℕ, All, Some, None, length, refl, sym, ◌∙◌, subst}
use Rattle.std.specs.Prelude.{is_some}
use Rattle.msc_chart.specs.Drawings.{Drawing}
use Rattle.msc_text.proofs.Judgements.{marking_of, stale_known, told_of_chart}
use Rattle.msc_text.proofs.judging.judge_chart.Goals as goal

pub returns-in_default : goal.returns-in_default
returns-in_default g c =
    rw c.in_default.is (told_of_chart g.W.Write.contents c.in_ok-enforced.enforced c.args.input.chart.now c.args.input.queues c.args.options None (is_some c.args.input.rounds) c.args.format c.judge_by.result c.args.writer.now c.judge_by.new.writer
    c.in_ok-enforced.ensures.chart c.in_ok-enforced.ensures.queues (c.judge_by.ensures None (c.none-marking.ensures.accepted, c.none-marking.ensures.stale)))

pub judge_by-requires-2-clause-stale : goal.judge_by-requires-2-clause-stale
judge_by-requires-2-clause-stale g c =
    let its = c.in_ok-accepted.ensures in
    let known = subst (All (λ (e : ℕ). e < length c.in_ok-accepted.accepted.chart.events)) (sym (c.as_slice.ensures.value ∙ c.in_ok-stale.ensures)) (stale_known _ _) in
    subst (λ (d : Drawing). All (λ (e : ℕ). e < length d.events) c.as_slice.result.now) (its.chart ∙ sym c.in_ok-enforced.ensures.chart) known

pub returns : goal.returns
returns g c =
    let its = c.in_ok-accepted.ensures in
    let e = c.in_ok-enforced.enforced in
    rw c.in-Some.is (told_of_chart g.W.Write.contents e c.args.input.chart.now c.args.input.queues c.args.options (Some c.in-Some.marks.now) (is_some c.args.input.rounds) c.args.format c.judge_by-2.result c.args.writer.now c.judge_by-2.new.writer
    c.in_ok-enforced.ensures.chart c.in_ok-enforced.ensures.queues
    (c.judge_by-2.ensures (Some c.in-Some.marks.now)
    (marking_of e c.in-Some.marks.now c.in_ok-accepted.accepted c.args.input.chart.now c.args.input.queues _ (record { accepted = Some _; stale = c.as_slice.result }) its.marks its.chart its.queues c.in_ok-enforced.ensures.chart c.in_ok-enforced.ensures.queues
    refl c.in_ok-pairs.ensures (c.as_slice.ensures.value ∙ c.in_ok-stale.ensures))))
