use Rattle.msc_answer.proofs.own.own_of_chart.Goals as goal

pub returns-then-asked : goal.returns-then-asked
returns-then-asked c = rw c.if-asked.true c.own_in_chart.ensures
