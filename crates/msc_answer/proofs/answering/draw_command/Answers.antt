use Rattle.msc_answer.proofs.TextAnswers.{by_diagram, by_text}
use Rattle.msc_answer.specs.declared.tasks.Task.TheVariants as tasks
use Rattle.msc_answer.proofs.answering.draw_command.Goals as goal

pub returns-in-None : goal.returns-in-None
returns-in-None g c = λ file.
    by_text g.O.Write.contents file c.args.text.now (tasks.Draw c.args.drawn) c.args.words c.in-None.is c.draw_text.result _ _ (c.draw_text.ensures file)

pub returns-in-Some : goal.returns-in-Some
returns-in-Some g c = λ file.
    by_diagram g.O.Write.contents file c.args.text.now (tasks.Draw c.args.drawn) c.args.words c.in-Some.chosen c.in-Some.is c.draw_diagram.result _ _ (c.draw_diagram.ensures file)
