use Rattle.msc_answer.proofs.answering.answer.Goals as goal

pub returns-in-Read : goal.returns-in-Read
returns-in-Read g c = rw c.in-Read.is (c.read.ensures c.args.request.file.now)

pub returns-in-Chart : goal.returns-in-Chart
returns-in-Chart g c = rw c.in-Chart.is c.answer_command.ensures

pub returns-in-Draw : goal.returns-in-Draw
returns-in-Draw g c = rw c.in-Draw.is (c.draw_command.ensures c.args.request.file.now)

pub returns-in-Import : goal.returns-in-Import
returns-in-Import g c = rw c.in-Import.is c.import.ensures

pub returns-in-Scenarios : goal.returns-in-Scenarios
returns-in-Scenarios g c = rw c.in-Scenarios.is c.check_diagrams.ensures
