use Rattle.std.proofs.Common.{◌≡◌, ℕ, List, drop}
use Rattle.msc_lexer.specs.Lexemes.{lexemes}
use Rattle.msc_place.specs.Collecting.{end_of}
use Rattle.msc_place.proofs.statements.end_of.Given as goal

abbrev pub invariant-loop-token : goal.invariant-loop-token
invariant-loop-token l =
    (text : List ℕ) → end_of (lexemes text (drop l.token-index l.tokens)) ≡ end_of (lexemes text l.tokens)
