use Rattle.std.proofs.Common.{Some, None, refl, ◌∙◌}
use Rattle.std.proofs.lemmas.Result.{IfOk-weaker}
use Rattle.std.specs.Borrow.{Bor}
use Rattle.msc_judge.specs.declared.marking.Marking.{Marking}
use Rattle.msc_reason.specs.PairTables.{PairTable}
use Rattle.msc_text.proofs.Judgements.{marking_of, passes_by}
use Rattle.msc_text.proofs.judging.passes_once.Goals as goal

pub returns-in_default : goal.returns-in_default
returns-in_default c =
    rw c.in_default.is (IfOk-weaker c.none_left.result _ _
    (λ none told. passes_by c.in_ok-enforced.enforced c.args.chart.now c.args.queues c.args.allowed None c.none.result none
    c.in_ok-enforced.ensures.chart c.in_ok-enforced.ensures.queues c.facts-2.ensures.chart c.facts-2.ensures.order told (c.none.ensures.accepted, c.none.ensures.stale)) c.none_left.ensures)

pub returns : goal.returns
returns c =
    let its = c.in_ok-accepted.ensures in
    let e = c.in_ok-enforced.enforced in
    let pairs : Bor PairTable = record { ref_ptr = c.as_slice.result.ref_ptr; now = c.in_ok-pairs.pairs } in
    let marking : Marking = record { accepted = Some pairs; stale = c.as_slice.result } in
    rw c.in-Some.is (IfOk-weaker c.none_left-2.result _ _
    (λ none told. passes_by e c.args.chart.now c.args.queues c.args.allowed (Some c.in-Some.marks.now) marking none
    c.in_ok-enforced.ensures.chart c.in_ok-enforced.ensures.queues c.facts-2.ensures.chart c.facts-2.ensures.order told
    (marking_of e c.in-Some.marks.now c.in_ok-accepted.accepted c.args.chart.now c.args.queues pairs marking its.marks its.chart its.queues c.in_ok-enforced.ensures.chart c.in_ok-enforced.ensures.queues
    refl c.in_ok-pairs.ensures (c.as_slice.ensures.value ∙ c.in_ok-stale.ensures))) c.none_left-2.ensures)
