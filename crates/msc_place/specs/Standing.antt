-- Where the parts of a draft stand in its text. A place is that of the first byte of a token.
use Rattle.std.specs.Prelude.{◌≡◌, ℕ, ◌+◌, ◌<◌, ◌≤◌, Bool, true, false, List, [], ◌∷◌, ◌++◌, length, count_by, slice_get, Some, All, IfSome, MatchOption}
use Rattle.msc_lexer.specs.declared.word.Word.TheVariants as words
use Rattle.msc_lexer.specs.declared.token.Token.{Token}
use Rattle.msc_lexer.specs.Lexemes.{Symbol, Reserved, Named, Semicolon, Comma, Lexeme, lexemes}
use Rattle.msc_lexer.specs.Lexing.{HasTokens}
use Rattle.msc_parser.specs.declared.tree.Decl.{Decl}
use Rattle.msc_parser.specs.declared.tree.Signal.{Signal}
use Rattle.msc_parser.specs.declared.tree.Statement.{Statement}
use Rattle.msc_parser.specs.declared.tree.Statement.TheVariants.{Message, Action}
use Rattle.msc_parser.specs.declared.tree.Section.{Section}
use Rattle.msc_parser.specs.Drafts.{statements_of}
use Rattle.msc_parser.specs.Grammar.{Tree, address_word, IsDecl, IsEvent, IsSection}
use Rattle.msc_parser.specs.Parsing.{HasDraft}
use Rattle.msc_place.specs.declared.places.EventPlace.{EventPlace}
use Rattle.msc_place.specs.Positions.{IsPosition}

-- `out`, `in` or `action`, which begin the statements of events and stand nowhere else
abbrev pub begins_event : Symbol → Bool
begins_event (Reserved words.Output) = true
begins_event (Reserved words.Input) = true
begins_event (Reserved words.Action) = true
begins_event symbol = false

-- `instance`, which begins a section and stands nowhere else
abbrev pub begins_section : Symbol → Bool
begins_section (Reserved words.Instance) = true
begins_section symbol = false

-- `inst` or a comma: what stands before a decl of the header
abbrev pub leads_decl : Symbol → Bool
leads_decl (Reserved words.Inst) = true
leads_decl Comma = true
leads_decl symbol = false

-- so many of the tokens pass the test
abbrev pub tokens_with : (Symbol → Bool) → List Lexeme → ℕ
tokens_with test tokens = count_by (λ l. test l.symbol) tokens

-- the text has these tokens
pub record AreTokensOf (text : List ℕ) (ls : List Lexeme) : Type 0 where
  pub tokens : List Token
  pub have : HasTokens text tokens
  pub seen : lexemes text tokens ≡ ls

-- The tokens `own` are the statement of event e, up to its `;`: those before it begin e statements
-- of events, and the e-th event of the draft is read from it.
pub record IsStatement (text : List ℕ) (t : Tree) (e : ℕ) (event : Statement) (front own after : List Lexeme) : Type 0 where
  pub whole : AreTokensOf text (front ++ (own ++ after))
  pub earlier : tokens_with begins_event front ≡ e
  pub listed : slice_get (statements_of t.sections) e ≡ Some event
  pub is_event : IsEvent (own ++ after) event after

-- the statement of event e begins at this place
pub record BeginsEvent (text : List ℕ) (t : Tree) (e at : ℕ) : Type 0 where
  pub event : Statement
  pub front : List Lexeme
  pub first : Lexeme
  pub rest : List Lexeme
  pub after : List Lexeme
  pub statement : IsStatement text t e event front (first ∷ rest) after
  pub place : at ≡ first.place

-- the statement of event e ends with a `;`, and this is the place behind it
pub record EndsEvent (text : List ℕ) (t : Tree) (e at : ℕ) : Type 0 where
  pub event : Statement
  pub front : List Lexeme
  pub body : List Lexeme
  pub last : ℕ
  pub after : List Lexeme
  pub statement : IsStatement text t e event front (body ++ record { symbol = Semicolon; place = last } ∷ []) after
  pub place : at ≡ last + 1

-- event e has an address, behind its `to` or `from`, at this place
pub record NamesAddress (text : List ℕ) (t : Tree) (e at : ℕ) : Type 0 where
  pub event : Signal
  pub front : List Lexeme
  pub lead : List Lexeme
  pub word : ℕ
  pub close : List Lexeme
  pub after : List Lexeme
  pub statement : IsStatement text t e (Message event) front (lead ++ record { symbol = Reserved (address_word event.direction); place = word } ∷ record { symbol = Named event.address; place = at } ∷ close) after

-- event e is an action, which has no address
pub record HasNoAddress (t : Tree) (e : ℕ) : Type 0 where
  pub label : List ℕ
  pub listed : slice_get (statements_of t.sections) e ≡ Some (Action label)

-- where the statement of event e begins and ends, and where its address stands
pub record IsEventPlace (text : List ℕ) (t : Tree) (e : ℕ) (p : EventPlace) : Type 0 where
  pub start : BeginsEvent text t e p.start
  pub «end» : EndsEvent text t e p.«end»
  pub address : MatchOption p.address (HasNoAddress t e) (NamesAddress text t e)

-- The name of section i stands at this place: the tokens before the section begin i others, and the
-- i-th section of the draft is read from its `instance` on.
pub record NamesSection (text : List ℕ) (t : Tree) (i at : ℕ) : Type 0 where
  pub section : Section
  pub front : List Lexeme
  pub word : ℕ
  pub rest : List Lexeme
  pub after : List Lexeme
  pub own : List Lexeme
  pub begins : own
      ≡ record { symbol = Reserved words.Instance; place = word } ∷ record { symbol = Named section.decl.name; place = at } ∷ rest
  pub whole : AreTokensOf text (front ++ own)
  pub earlier : tokens_with begins_section front ≡ i
  pub listed : slice_get t.sections i ≡ Some section
  pub is_section : IsSection own section after

-- The name of decl k of the header stands at this place: behind an `inst` or a comma, before which
-- k others and no section stand, and the k-th decl of the header is read from it on.
pub record NamesDecl (text : List ℕ) (t : Tree) (k at : ℕ) : Type 0 where
  pub decl : Decl
  pub front : List Lexeme
  pub lead : Lexeme
  pub rest : List Lexeme
  pub after : List Lexeme
  pub whole : AreTokensOf text (front ++ (lead ∷ record { symbol = Named decl.name; place = at } ∷ rest))
  pub behind : leads_decl lead.symbol ≡ true
  pub earlier : tokens_with leads_decl front ≡ k
  pub no_section : tokens_with begins_section front ≡ 0
  pub listed : slice_get t.header k ≡ Some decl
  pub is_decl : IsDecl (record { symbol = Named decl.name; place = at } ∷ rest) decl after

-- the places of a text: of its events, of the names of its sections, and of those in its header
pub record Stand : Type 0 where
  pub events : List EventPlace
  pub sections : List ℕ
  pub header : List ℕ

-- each part of the draft has its place, and there are no more places
pub record HasPlaces (text : List ℕ) (t : Tree) (p : Stand) : Type 0 where
  pub events : (e : ℕ)
      → MatchOption (slice_get p.events e) (length (statements_of t.sections) ≤ e) (IsEventPlace text t e)
  pub sections : (i : ℕ)
      → MatchOption (slice_get p.sections i) (length t.sections ≤ i) (NamesSection text t i)
  pub header : (k : ℕ)
      → MatchOption (slice_get p.header k) (length t.header ≤ k) (NamesDecl text t k)

-- the statement begins at a place of a text of so many bytes, and so does its address
pub record IsInside (n : ℕ) (p : EventPlace) : Type 0 where
  pub start : p.start ≤ n
  pub address : IfSome p.address (λ at. at ≤ n)

-- all are places of a text of so many bytes
pub record AreInside (n : ℕ) (p : Stand) : Type 0 where
  pub events : All (IsInside n) p.events
  pub sections : All (λ at. at ≤ n) p.sections
  pub header : All (λ at. at ≤ n) p.header

-- a text, and the places of its parts
pub record TextPlaces : Type 0 where
  pub text : List ℕ
  pub stand : Stand

-- these two
abbrev pub text_places : List ℕ → List EventPlace → List ℕ → List ℕ → TextPlaces
text_places text events sections header =
    record { text = text; stand = record { events = events; sections = sections; header = header } }

-- they are the places of the text's draft, if it has one
pub record ArePlaces (p : TextPlaces) : Type 0 where
  pub inside : AreInside (length p.text) p.stand
  pub stand : (t : Tree) → HasDraft p.text t → HasPlaces p.text t p.stand

-- the statement of event e begins on this line
pub record BeginsOnLine (text : List ℕ) (t : Tree) (line e : ℕ) : Type 0 where
  pub at : ℕ
  pub column : ℕ
  pub begins : BeginsEvent text t e at
  pub position : IsPosition text at line column

-- e is the first event whose statement begins on this line
pub record IsFirstOnLine (text : List ℕ) (t : Tree) (line e : ℕ) : Type 0 where
  pub begins : BeginsOnLine text t line e
  pub first : (f : ℕ) → f < e → BeginsOnLine text t line f → ⊥

-- no statement of an event begins on this line
abbrev pub HasNoneOnLine : List ℕ → Tree → ℕ → Type 0
HasNoneOnLine text t line = (e : ℕ) → BeginsOnLine text t line e → ⊥

-- Each event's statement begins at one place of its text.
abbrev pub EachEventBeginsOnce : Type 0
EachEventBeginsOnce = (text : List ℕ) (t : Tree) (e a b : ℕ) → BeginsEvent text t e a
    → BeginsEvent text t e b → a ≡ b
