-- That the table of places says what the grammar says (this project's profile of MSC/PR, ITU-T
-- Z.120).
use Rattle.std.specs.Prelude.{◌≡◌, ◌≢◌, ◌↔◌, List, [], ◌∷◌, ◌++◌, None}
use Rattle.msc_lexer.specs.Lexemes.{Symbol, Lexeme}
use Rattle.msc_parser.specs.Grammar.{Tree, IsChart}
use Rattle.msc_parser.specs.Places.{GrammarPlace, Start, Done, next, walk}
use Rattle.msc_parser.specs.Parsing.{IsContinuable}

-- the place behind tokens, by the table
abbrev pub place_behind : List Lexeme → GrammarPlace
place_behind front = (walk Start front).0

-- the table allows the symbol behind the tokens
abbrev pub Allows : List Lexeme → Symbol → Type 0
Allows front symbol = next (place_behind front) symbol ≢ None

-- Behind each beginning of a chart the table allows exactly what some chart goes on with.
pub record TableFitsTheGrammar : Type 0 where
  -- the beginnings of charts are what the table lets through to the last token
  pub beginnings : (ls : List Lexeme) → IsContinuable ls ↔ ((walk Start ls).1 ≡ [])
  -- a token is allowed behind a beginning exactly where the two together are again a beginning
  pub tokens : (front : List Lexeme) (l : Lexeme) → IsContinuable front
      → (Allows front l.symbol ↔ IsContinuable (front ++ l ∷ []))
  -- the text may end behind a beginning exactly where the beginning is a chart
  pub ends : (front : List Lexeme) → IsContinuable front
      → ((place_behind front ≡ Done) ↔ ((t : Tree) × IsChart front t))
