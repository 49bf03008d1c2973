use Rattle.std.proofs.Common.{ℕ, List, Some, None, false, sym, subst, ◌∙◌}
use Rattle.msc_answer.proofs.Witness.{diagrams_so, many_known, many_text}
use Rattle.msc_answer.specs.Answering.{AnswersWith}
use Rattle.msc_answer.specs.Surveys.{BeginsSurvey, Surveys}
use Rattle.msc_answer.specs.declared.ending.Status.TheVariants.{Done}
use Rattle.msc_answer.proofs.answering.check_diagrams.Goals as goal

pub survey-requires : goal.survey-requires
survey-requires g c = many_known c.args.words c.args.text.now c.in-Some.found (sym c.in-Some.is ∙ c.in_ok-blocks.ensures)

pub returns-in-None : goal.returns-in-None
returns-in-None g c =
    diagrams_so g.O.Write.contents c.args.words c.args.request.file.now c.args.text.now None (sym c.in-None.is ∙ c.in_ok-blocks.ensures) _ _ _ c.check_scenarios.ensures

pub returns-in-Some : goal.returns-in-Some
returns-in-Some g c =
    let contents = g.O.Write.contents in let x = c.args.words in let file = c.args.request.file.now in let f = c.in-Some.found in
    let said = subst (λ (t : List ℕ). AnswersWith contents (Surveys x file t f.numbers false false Done) (BeginsSurvey x file t f.numbers) (λ r. ⊥) c.survey.result c.args.output.now c.survey.new.output)
    (many_text x c.args.text.now f (sym c.in-Some.is ∙ c.in_ok-blocks.ensures)) c.survey.ensures in
    diagrams_so contents x file c.args.text.now (Some f) (sym c.in-Some.is ∙ c.in_ok-blocks.ensures) c.survey.result c.args.output.now c.survey.new.output said
