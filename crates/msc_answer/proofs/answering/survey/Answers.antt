use Rattle.std.proofs.Common.{ℕ, List, Err, false, subst}
use Rattle.std.proofs.lemmas.Result.{err_from_is_err_and}
use Rattle.msc_answer.proofs.AllSurveyed.{all_so_far, at_end, at_place, failed_so_far, more_so_far, no_end, none_so_far}
use Rattle.msc_report.specs.declared.fault.Fault.TheVariants.{Memory}
use Rattle.msc_answer.specs.Answering.{AnswersWith, IsPut}
use Rattle.msc_answer.specs.Surveys.{BeginsSurvey, Surveys}
use Rattle.msc_answer.specs.declared.ending.Refusal.TheVariants as refusals
use Rattle.msc_answer.specs.declared.ending.Status.TheVariants.{Done}
use Rattle.msc_answer.proofs.answering.survey.Goals as goal

pub loop-number-init : goal.loop-number-init
loop-number-init g c =
    none_so_far g.O.Write.contents c.args.words c.args.request.file.now c.args.found.now.text c.numbers-numbers.result.now c.args.output.now

pub returns-in_err-one : goal.returns-in_err-one
returns-in_err-one g c =
    let l = c.loop-number in let p = err_from_is_err_and c.from_residual.result c.from_residual.ensures.1 in
    let contents = g.O.Write.contents in let x = c.args.words in let file = c.args.request.file.now in let text = c.args.found.now.text in
    let ns = c.numbers-numbers.result.now in let f = c.in_err-one.field-0.0 in
    rw (p.1, p.2) (subst (λ (ns' : List ℕ). AnswersWith contents (Surveys x file text ns' false false Done) (BeginsSurvey x file text ns') (λ r. ⊥) (Err f) c.args.output.now c.survey_block.new.output)
    c.numbers-numbers.ensures
    (failed_so_far contents x file text ns l.words l.is_listed l.is_marked l.worst _ _ f c.args.output.now l.output c.survey_block.new.output
    (at_place contents x file text ns l.words l.is_listed l.is_marked l.worst l.number-index c.args.output.now _ c.loop-number-test.true l.output l.invariant) c.in_err-one.ensures))

pub loop-number-preserved : goal.loop-number-preserved
loop-number-preserved g c =
    let l = c.loop-number in
    let contents = g.O.Write.contents in let x = c.args.words in let file = c.args.request.file.now in let text = c.args.found.now.text in
    let ns = c.numbers-numbers.result.now in let s = c.in_ok-one.one in
    rw (c.worse-worst.ensures, c.behind-words.ensures, c.lists_races-is_listed.ensures, c.met-is_marked.ensures) (more_so_far contents x file text ns l.words l.is_listed l.is_marked l.worst _ _ s c.args.output.now l.output c.survey_block.new.output
    (at_place contents x file text ns l.words l.is_listed l.is_marked l.worst l.number-index c.args.output.now _ c.loop-number-test.true l.output l.invariant) c.in_ok-one.ensures)

pub returns-in_err-end : goal.returns-in_err-end
returns-in_err-end g c =
    let l = c.loop-number in
    let contents = g.O.Write.contents in let x = c.args.words in let file = c.args.request.file.now in let text = c.args.found.now.text in
    let ns = c.numbers-numbers.result.now in
    let p = err_from_is_err_and c.from_residual-in_err-end.result c.from_residual-in_err-end.ensures.1 in
    rw (p.1, p.2) (subst (λ (ns' : List ℕ). AnswersWith contents (Surveys x file text ns' false false Done) (BeginsSurvey x file text ns') (λ r. ⊥) (Err (refusals.Fault Memory)) c.args.output.now l.output)
    c.numbers-numbers.ensures
    (no_end contents x file text ns l.words l.is_listed l.is_marked l.worst c.args.output.now l.output
    (at_end contents x file text ns l.words l.is_listed l.is_marked l.worst l.number-index c.args.output.now c.loop-number-test.false l.output l.invariant)))

pub returns : goal.returns
returns g c =
    let l = c.loop-number in
    let contents = g.O.Write.contents in let x = c.args.words in let file = c.args.request.file.now in let text = c.args.found.now.text in
    let ns = c.numbers-numbers.result.now in
    let put = subst (λ (bytes : List ℕ). IsPut contents bytes l.worst c.put.result l.output c.put.new.output) c.in_ok-end.ensures c.put.ensures in
    subst (λ (ns' : List ℕ). AnswersWith contents (Surveys x file text ns' false false Done) (BeginsSurvey x file text ns') (λ r. ⊥) c.put.result c.args.output.now c.put.new.output)
    c.numbers-numbers.ensures
    (all_so_far contents x file text ns l.words l.is_listed l.is_marked l.worst c.args.output.now l.output
    (at_end contents x file text ns l.words l.is_listed l.is_marked l.worst l.number-index c.args.output.now c.loop-number-test.false l.output l.invariant)
    c.put.result c.put.new.output put)
