use Rattle.msc_answer.proofs.chart_answers.print_ready.Goals as goal

pub returns-in-Count : goal.returns-in-Count
returns-in-Count g c = c.ready_in-in-Count.ensures c.args.file.now (rw c.in-Count.is c.as_bytes.ensures.value)

pub returns-in_ok-event_positions-in-Lines : goal.returns-in_ok-event_positions-in-Lines
returns-in_ok-event_positions-in-Lines g c =
    c.ready_in-in-Lines.ensures c.args.file.now (rw c.in-Lines.is c.in_ok-event_positions-in-Lines.ensures)
