use Rattle.std.proofs.lemmas.Result.{err_from_is_err_and}
use Rattle.msc_calls.proofs.Refusals.{read_refused, text_drafted, text_refused, write_refuses_no_text}
use Rattle.msc_calls.proofs.reading.read_text.Goals as goal

pub returns-in_err-read-clause-refused : goal.returns-in_err-read-clause-refused
returns-in_err-read-clause-refused g c =
    let exit = err_from_is_err_and c.from_residual.result c.from_residual.ensures.1 in
    rw (exit.1, exit.2) (text_refused c.one_parsing.ensures c.args.text.now _ (read_refused c.args.text.now _ c.in_err-read.ensures))

pub returns-in_err-write_reading-clause-refused : goal.returns-in_err-write_reading-clause-refused
returns-in_err-write_reading-clause-refused g c =
    let exit = err_from_is_err_and c.from_residual-in_err-write_reading.result c.from_residual-in_err-write_reading.ensures.1 in
    rw (exit.1, exit.2) (text_drafted c.one_parsing.ensures c.args.text.now _ _ c.in_ok-read.ensures.2 (write_refuses_no_text c.in_err-write_reading.field-0.0))

pub returns-clause-written : goal.returns-clause-written
returns-clause-written g c =
    record { draft = c.in_ok-read.read.draft; has = c.in_ok-read.ensures.2; written = c.in_ok-write_reading.ensures.written }

pub returns-clause-refused : goal.returns-clause-refused
returns-clause-refused g c = text_drafted c.one_parsing.ensures c.args.text.now _ _ c.in_ok-read.ensures.2 (λ f e. cc)
