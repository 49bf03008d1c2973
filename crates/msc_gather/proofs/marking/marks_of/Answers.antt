use Rattle.std.proofs.lemmas.List.{length-map}
use Rattle.msc_gather.proofs.MarkLemmas.{logs_from, line_logs_of}
use Rattle.msc_gather.proofs.marking.marks_of.Goals as goal

pub returns-in_err-marks-clause-strange : goal.returns-in_err-marks-clause-strange
returns-in_err-marks-clause-strange c = λ same sound.
    let given = rw same at c.from_residual.ensures.1 in
    c.in_err-marks.ensures.strange (cc) (line_logs_of sound)

pub returns-clause-logs : goal.returns-clause-logs
returns-clause-logs c =
    logs_from (length-map c.args.logs.now (λ v. v.items)) c.requires.seated
    c.in_ok-marks.ensures.logs
    c.in_ok-marks.ensures.marks
    (rw c.deref.ensures.value at (c.have_outputs.ensures.0 c.if-not-have_outputs.false))
