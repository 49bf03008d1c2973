use Rattle.msc_answer.proofs.TextAnswers.{by_diagram, by_text}
use Rattle.msc_answer.specs.declared.tasks.Task.TheVariants as tasks
use Rattle.msc_answer.proofs.answering.answer_command.Goals as goal

pub returns-in-None : goal.returns-in-None
returns-in-None g c =
    by_text g.O.Write.contents c.args.file.now c.args.text.now (tasks.Chart c.args.ask) c.args.words c.in-None.is c.answer_text.result _ _ c.answer_text.ensures

pub returns-in-Some : goal.returns-in-Some
returns-in-Some g c =
    by_diagram g.O.Write.contents c.args.file.now c.args.text.now (tasks.Chart c.args.ask) c.args.words c.in-Some.chosen c.in-Some.is c.answer_diagram.result _ _ c.answer_diagram.ensures
