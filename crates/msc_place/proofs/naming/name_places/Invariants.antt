use Rattle.std.proofs.Common.{◌≡◌, ℕ, List, ◌++◌, drop}
use Rattle.msc_lexer.specs.Lexemes.{lexemes}
use Rattle.msc_place.specs.Collecting.{name_places}
use Rattle.msc_place.proofs.naming.name_places.Given as goal

abbrev pub invariant-loop-i : goal.invariant-loop-i
invariant-loop-i l =
    (text : List ℕ) → l.places.items ++ name_places l.part (lexemes text (drop l.i l.tokens)) ≡ name_places l.part (lexemes text l.tokens)
