use Rattle.std.proofs.Common.{◌≡◌, drop, find}
use Rattle.msc_lexer.specs.Words.{is_spelled}
use Rattle.msc_lexer.proofs.word.Word.among.Given as goal

abbrev pub invariant-loop-word : goal.invariant-loop-word
invariant-loop-word l =
    find (is_spelled l.bytes) (drop l.word-index l.words) ≡ find (is_spelled l.bytes) l.words
