use Rattle.std.proofs.Common.{rules}
use Rattle.msc_answer.specs.Sited.{IsStyle}
use Rattle.msc_answer.proofs.chart_answers.check_races.Goals as goal

pub returns-in-Text : goal.returns-in-Text
returns-in-Text g c =
    let its : IsStyle c.args.check_args.event_style c.args.file.now c.args.source.now c.style_of-style.result = search rules in
    c.check_in.ensures c.args.file.now (rw c.in-Text.is its)

pub returns-in-Count : goal.returns-in-Count
returns-in-Count g c = c.check_in-in-Count.ensures c.args.file.now (rw c.in-Count.is c.as_bytes.ensures.value)

pub returns-in-Lines : goal.returns-in-Lines
returns-in-Lines g c = c.check_in-in-Lines.ensures c.args.file.now (rw c.in-Lines.is c.in_ok-event_positions-in-Lines.ensures)
