use Rattle.std.proofs.Common.{◌≡◌, ℕ, List, ◌++◌, drop}
use Rattle.msc_lexer.specs.Lexemes.{lexemes}
use Rattle.msc_place.specs.Collecting.{event_places}
use Rattle.msc_place.proofs.statements.event_places.Given as goal

abbrev pub invariant-loop-i : goal.invariant-loop-i
invariant-loop-i l =
    (text : List ℕ) → l.places.items ++ event_places (lexemes text (drop l.i l.tokens)) ≡ event_places (lexemes text l.tokens)
