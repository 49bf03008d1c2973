use Rattle.std.proofs.Common.{sym, ap, ◌∙◌}
use Rattle.std.specs.Result.{result_ok}
use Rattle.msc_spoken.proofs.NumberLemmas.{number_is, number_read, number_utf8}
use Rattle.msc_spoken.proofs.entity.number.Goals as goal

pub returns-in-Ok : goal.returns-in-Ok
returns-in-Ok c =
    let word = c.args.word.now in
    let is = c.if-not-is_number.ensures in
    let read = number_read word is c.parse.result (rw (c.in-Ok.ensures.cases.0) at c.parse.ensures.value.0) in
    c.ok.ensures.value ∙ ap result_ok read ∙ sym (number_is word is)

pub returns-in-Err : goal.returns-in-Err
returns-in-Err c = absurd (c.in-Err.ensures.cases.0 (number_utf8 c.args.word.now c.if-not-is_number.ensures))
