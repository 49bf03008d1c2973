-- What the functions answer that read a text's tokens. Each reads a part at a place, and answers
-- the part and the tokens behind it, or the first fault from that place on.
use Rattle.std.specs.Prelude.{◌≡◌, ◌≢◌, ℕ, ◌<◌, ◌≤◌, List, [], ◌∷◌, length, Option, Some, None, Result, Ok, Err}
use Rattle.std.specs.Borrow.{Bor}
use Rattle.msc_lexer.specs.declared.word.Word.{Word}
use Rattle.msc_lexer.specs.declared.word.Word.TheVariants as words
use Rattle.msc_lexer.specs.declared.token.Kind.{Kind}
use Rattle.msc_lexer.specs.declared.token.Kind.TheVariants as kinds
use Rattle.msc_lexer.specs.declared.token.Token.{Token}
use Rattle.msc_lexer.specs.Lexemes.{Symbol, Reserved, Named, Quoted, Lexeme, lexemes, symbol_of, AreWithin}
use Rattle.msc_parser.specs.declared.tree.Direction.{Direction}
use Rattle.msc_parser.specs.declared.tree.Signal.{Signal}
use Rattle.msc_parser.specs.declared.tree.Statement.{Statement}
use Rattle.msc_parser.specs.declared.tree.Statement.TheVariants as statements
use Rattle.msc_parser.specs.declared.opening.Opening.{Opening}
use Rattle.msc_parser.specs.declared.opening.Opening.TheVariants as openings
use Rattle.msc_parser.specs.declared.fault.What.{What}
use Rattle.msc_parser.specs.declared.fault.What.TheVariants as whats
use Rattle.msc_parser.specs.declared.fault.ParseFault.{ParseFault}
use Rattle.msc_parser.specs.declared.fault.ParseFault.TheVariants.{Memory}
use Rattle.msc_parser.specs.Forms.{IsToken, AreMany}
use Rattle.msc_parser.specs.Grammar.{Tree, IsEnd, direction_word, address_word, IsSignal, IsAction, IsChart}
use Rattle.msc_parser.specs.Places.{GrammarPlace, Start, Message, ActionText, StatementEnd, Done, what, walk}
use Rattle.msc_parser.specs.Parsing.{fault_at}

-- the kind of the first token
abbrev pub first_kind : List Token → Option Kind
first_kind [] = None
first_kind (t ∷ ts) = Some t.kind

-- the fault of a walk that ended so, in a text of so many bytes: none at the end of a chart
abbrev pub fault_of : ℕ → GrammarPlace × List Lexeme → Option ParseFault
fault_of len (Done, []) = None
fault_of len (place, rest) = Some (fault_at len (what place) rest)

-- the first fault of the tokens from a place on
unfoldable pub fault_from : List ℕ → GrammarPlace → List Token → Option ParseFault
fault_from text place tokens = fault_of (length text) (walk place (lexemes text tokens))

-- want of memory, or the first fault from a place on
abbrev pub Stops : List ℕ → GrammarPlace → List Token → ParseFault → Type 0
Stops text place before Memory = Unit {0}
Stops text place before fault = Some fault ≡ fault_from text place before

-- a token of this symbol was taken
pub record DidTake (text : List ℕ) (s : Symbol) (before after : List Token) : Type 0 where
  pub part : IsToken s (lexemes text before) (lexemes text after)
  pub within : AreWithin text after
  pub shorter : length after < length before

-- something else was expected, since no token of this kind stands first
abbrev pub Refuses : List ℕ → Kind → What → List Token → ParseFault → Type 0
Refuses text kind w before e =
    (e ≡ fault_at (length text) w (lexemes text before)) × (first_kind before ≢ Some kind)

-- what taking a token of a kind answers
abbrev pub TakesToken : List ℕ → Kind → What → List Token → Result (Bor (List Token)) ParseFault
    → Type 0
TakesToken text kind w before (Ok after) =
    (bytes : List ℕ) × DidTake text (symbol_of kind bytes) before after.now
TakesToken text kind w before (Err e) = Refuses text kind w before e

-- what taking a name answers
abbrev pub TakesName : List ℕ → What → List Token → Result (List ℕ × Bor (List Token)) ParseFault
    → Type 0
TakesName text w before (Ok x) = DidTake text (Named x.0) before x.1.now
TakesName text w before (Err Memory) = Unit {0}
TakesName text w before (Err e) = Refuses text kinds.Name w before e

-- what taking a text, with what it holds, answers
abbrev pub TakesText : List ℕ → List Token → Result (List ℕ × Bor (List Token)) ParseFault → Type 0
TakesText text before (Ok x) = DidTake text (Quoted x.0) before x.1.now
TakesText text before (Err Memory) = Unit {0}
TakesText text before (Err e) = Refuses text kinds.Text whats.Text before e

-- the end of a statement was read, wherever the statement ends
pub record DidEnd (text : List ℕ) (before after : List Token) : Type 0 where
  pub part : IsEnd (lexemes text before) (lexemes text after)
  pub within : AreWithin text after
  pub shorter : length after < length before
  pub leads : (p : GrammarPlace) → fault_from text (StatementEnd p) before ≡ fault_from text p after

-- what reading the end of a statement answers
abbrev pub Ends : List ℕ → List Token → Result (Bor (List Token)) ParseFault → Type 0
Ends text before (Ok after) = DidEnd text before after.now
Ends text before (Err e) = (p : GrammarPlace) → Stops text (StatementEnd p) before e

-- The part x was read at the place p, and q is the place behind it: what follows has the fault
-- there that the whole has at p.
pub record DidRead {X : Type 0} (text : List ℕ) (IsPart : List Lexeme → X → List Lexeme → Type 0) (p q : GrammarPlace) (before after : List Token) (x : X) : Type 0 where
  pub part : IsPart (lexemes text before) x (lexemes text after)
  pub within : AreWithin text after
  pub shorter : length after ≤ length before
  pub leads : fault_from text p before ≡ fault_from text q after

-- what reading a part between two places answers
abbrev pub Reads : {X : Type 0} → List ℕ → (List Lexeme → X → List Lexeme → Type 0) → GrammarPlace → GrammarPlace
    → List Token → Result (X × Bor (List Token)) ParseFault → Type 0
Reads text IsPart p q before (Ok x) = DidRead text IsPart p q before x.1.now x.0
Reads text IsPart p q before (Err e) = Stops text p before e

-- something of the tokens was used up
abbrev pub Uses : {X : Type 0} → List Token → Result (X × Bor (List Token)) ParseFault → Type 0
Uses before (Ok x) = length x.1.now < length before
Uses before (Err e) = Unit {0}

-- no token of this kind stands behind the part
abbrev pub Leaves : {X : Type 0} → Kind → Result (X × Bor (List Token)) ParseFault → Type 0
Leaves kind (Ok x) = first_kind x.1.now ≢ Some kind
Leaves kind (Err e) = Unit {0}

-- the address of a message event of this way: a word, a name and an end
pub record IsAddressOf (direction : Direction) (before : List Lexeme) (name : List ℕ) (after : List Lexeme) : Type 0 where
  pub address : List Lexeme
  pub close : List Lexeme
  pub is_word : IsToken (Reserved (address_word direction)) before address
  pub is_address : IsToken (Named name) address close
  pub is_end : IsEnd close after

-- a message event of this way, behind its first word
abbrev pub IsSignalOf : Direction → List Lexeme → Signal → List Lexeme → Type 0
IsSignalOf direction before e after = (e.direction ≡ direction) × IsSignal before e after

-- the first word of an event that begins so
abbrev pub opening_word : Opening → Word
opening_word (openings.Message direction) = direction_word direction
opening_word openings.Action = words.Action

-- the place behind that word, where the event ends at a place
abbrev pub behind_opening : Opening → GrammarPlace → GrammarPlace
behind_opening (openings.Message direction) p = Message direction p
behind_opening openings.Action p = ActionText p

-- an event that begins so, behind its first word
abbrev pub IsOpened : Opening → List Lexeme → Statement → List Lexeme → Type 0
IsOpened (openings.Message direction) before (statements.Message e) after = IsSignalOf direction before e after
IsOpened openings.Action before (statements.Action label) after = IsAction before label after
IsOpened opening before statement after = ⊥

-- parts, and a token behind them
abbrev pub AreUpTo : {X : Type 0} → Symbol → (List Lexeme → X → List Lexeme → Type 0) → List Lexeme
    → List X → List Lexeme → Type 0
AreUpTo s IsPart before xs after =
    (last : List Lexeme) × AreMany IsPart before xs last × IsToken s last after

-- what reading a whole chart answers
abbrev pub ReadsChart : List ℕ → List Token → Result Tree ParseFault → Type 0
ReadsChart text tokens (Ok t) = IsChart (lexemes text tokens) t
ReadsChart text tokens (Err e) = Stops text Start tokens e
