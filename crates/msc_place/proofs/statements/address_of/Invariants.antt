use Rattle.std.proofs.Common.{◌≡◌, ℕ, List, drop}
use Rattle.msc_lexer.specs.Lexemes.{lexemes}
use Rattle.msc_place.specs.Collecting.{address_of}
use Rattle.msc_place.proofs.statements.address_of.Given as goal

abbrev pub invariant-loop-i : goal.invariant-loop-i
invariant-loop-i l =
    (text : List ℕ) → address_of (lexemes text (drop l.i l.tokens)) ≡ address_of (lexemes text l.tokens)
