use Rattle.std.proofs.Common.{◌≡◌, ℕ, List, drop}
use Rattle.msc_lexer.specs.Lexemes.{lexemes}
use Rattle.msc_mark.specs.Comments.{comment_in}
use Rattle.msc_mark.proofs.comment.comment_in.Given as goal

abbrev pub invariant-loop-i : goal.invariant-loop-i
invariant-loop-i l =
    (text : List ℕ) → comment_in (lexemes text (drop l.i l.tokens)) ≡ comment_in (lexemes text l.tokens)
