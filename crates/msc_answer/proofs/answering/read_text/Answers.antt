use Rattle.std.proofs.Common.{refl}
use Rattle.std.proofs.lemmas.Result.{err_from_is_err_and}
use Rattle.msc_answer.proofs.TextAnswers.{no_draft, not_written}
use Rattle.msc_answer.proofs.answering.read_text.Goals as goal

pub returns-in_err-read : goal.returns-in_err-read
returns-in_err-read g c = λ file.
    let p = err_from_is_err_and c.from_residual.result c.from_residual.ensures.1 in
    rw (p.1, p.2) (no_draft g.O.Write.contents file c.args.text.now _ c.args.output.now c.in_err-read.ensures)

pub returns-in_err-write_reading : goal.returns-in_err-write_reading
returns-in_err-write_reading g c = λ file.
    let p = err_from_is_err_and c.from_residual-in_err-write_reading.result c.from_residual-in_err-write_reading.ensures.1 in
    rw (p.1, p.2) (not_written g.O.Write.contents file c.args.text.now _ c.args.output.now _ c.in_err-write_reading.ensures.untouched)

pub returns : goal.returns
returns g c = λ file. (_, (c.in_ok-read.read.draft, c.in_ok-read.ensures.2, refl, refl), c.in_ok-write_reading.ensures.written)
