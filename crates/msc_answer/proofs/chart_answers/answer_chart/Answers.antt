use Rattle.msc_answer.proofs.Answered.{print_so, told_quietly}
use Rattle.msc_answer.specs.Answering.{PrintsOf, RefusesOf}
use Rattle.msc_answer.specs.declared.tasks.ChartCommand.TheVariants as chart_commands
use Rattle.msc_answer.proofs.chart_answers.answer_chart.Goals as goal

pub returns-in-Quiet : goal.returns-in-Quiet
returns-in-Quiet g c =
    let q = c.in-Quiet in
    rw q.is (told_quietly g.O.Write.contents q.quieting c.args.file.now c.args.source.now c.quiet.result c.args.output.now c.quiet.ensures)

pub returns-in_ok-page-in-Run : goal.returns-in_ok-page-in-Run
returns-in_ok-page-in-Run g c =
    let asked = chart_commands.Run c.in-Run.queues c.in-Run.patience in
    let printed = rw c.chart-chart.ensures at c.in_ok-page-in-Run.ensures.printed in
    rw c.in-Run.is (print_so g.O.Write.contents (PrintsOf asked c.args.file.now c.args.source.now) (RefusesOf asked c.args.source.now) _ c.finished_by.result
    (c.in_ok-page-in-Run.finished, c.finished_by.ensures, printed) c.put.result _ _ c.put.ensures)
