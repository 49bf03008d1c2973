use Rattle.std.proofs.Common.{sym, ◌∙◌, find, arith}
use Rattle.std.proofs.lemmas.List.{at_drop_all}
use Rattle.msc_lexer.specs.Words.{is_spelled}
use Rattle.msc_lexer.proofs.Spellings.{compared, found, missed}
use Rattle.msc_lexer.proofs.word.Word.among.Goals as goal

pub returns-then-eq_ignore_ascii_case : goal.returns-then-eq_ignore_ascii_case
returns-then-eq_ignore_ascii_case c =
    let same = compared c.eq_ignore_ascii_case.result c.args.bytes.now c.spelling.result.now _ c.spelling.ensures c.eq_ignore_ascii_case.ensures.test in
    sym (found (is_spelled c.args.bytes.now) c.args.words.now c.loop-word.word-index _ (omega arith) (sym same ∙ c.if-eq_ignore_ascii_case.true)) ∙ c.loop-word.invariant

pub loop-word-preserved : goal.loop-word-preserved
loop-word-preserved c =
    let same = compared c.eq_ignore_ascii_case.result c.args.bytes.now c.spelling.result.now _ c.spelling.ensures c.eq_ignore_ascii_case.ensures.test in
    sym (missed (is_spelled c.args.bytes.now) c.args.words.now c.loop-word.word-index _ (omega arith) (sym same ∙ c.if-eq_ignore_ascii_case.false)) ∙ c.loop-word.invariant

pub returns : goal.returns
returns c =
    sym (at_drop_all (find (is_spelled c.args.bytes.now)) c.args.words.now c.loop-word.word-index (omega arith)) ∙ c.loop-word.invariant
