-- The pieces of a text: white space, notes and tokens (this project's profile of MSC/PR, ITU-T
-- Z.120). A text is cut into pieces, each of which fits before what follows it.
use Rattle.std.specs.Prelude.{◌≡◌, ◌≢◌, ℕ, ◌+◌, ◌≤◌, true, false, ◌==◌, nat_eq, List, [], ◌∷◌, ◌++◌, length, Option, Some, None, option_map, unwrap_or, if◌then◌else◌, slice_index, take_while}
use Rattle.std.specs.List.{flat_map}
use Rattle.msc_lexer.specs.declared.TheConstants.{NAME_LIMIT}
use Rattle.msc_lexer.specs.declared.token.Kind.{Kind}
use Rattle.msc_lexer.specs.declared.token.Kind.TheVariants as kinds
use Rattle.msc_lexer.specs.declared.token.Token.{Token}
use Rattle.msc_lexer.specs.Bytes.{is_white, is_run_byte, begins}
use Rattle.msc_lexer.specs.Words.{word_of}

-- a piece of a text, which is a token unless it is white space or a note
pub data Piece : Type 0 where
  Blank : ℕ → Piece  -- one byte of white space
  Note : List ℕ → Piece  -- the bytes between `/*` and `*/`
  Run : List ℕ → Piece  -- a word or a name
  Quoted : List ℕ → Piece  -- a text, with each doubled apostrophe halved
  Mark : ℕ → Piece  -- one of the five marks

-- `*/` stands nowhere in the bytes
abbrev pub NeverCloses : List ℕ → Type 0
NeverCloses body = (k : ℕ) → slice_index body k ≡ 42 → slice_index body (k + 1) ≢ 47

-- each apostrophe twice
abbrev pub doubled : List ℕ → List ℕ
doubled [] = []
doubled (b ∷ bs) = if b == 39 then 39 ∷ 39 ∷ doubled bs else b ∷ doubled bs

-- a text as it stands: between apostrophes, with each apostrophe that it holds twice
abbrev pub quoted : List ℕ → List ℕ
quoted body = 39 ∷ (doubled body ++ 39 ∷ [])

-- the mark that a byte is: `;` `,` `:` `(` or `)`
abbrev pub mark_of : ℕ → Option Kind
mark_of b =
    if b == 59 then Some kinds.Semicolon else (if b == 44 then Some kinds.Comma else (if b == 58 then Some kinds.Colon else (if b == 40 then Some kinds.LeftParen else (if b == 41 then Some kinds.RightParen else None))))

-- the bytes of a piece
abbrev pub spelled : Piece → List ℕ
spelled (Blank b) = b ∷ []
spelled (Note body) = 47 ∷ 42 ∷ (body ++ 42 ∷ 47 ∷ [])
spelled (Run bytes) = bytes
spelled (Quoted body) = quoted body
spelled (Mark b) = b ∷ []

-- the kind of token that a piece is, if it is one: a run is its reserved word, or a name
abbrev pub kind_of : Piece → Option Kind
kind_of (Blank b) = None
kind_of (Note body) = None
kind_of (Run bytes) = Some (unwrap_or (option_map kinds.Word (word_of bytes)) kinds.Name)
kind_of (Quoted body) = Some kinds.Text
kind_of (Mark b) = mark_of b

-- the bytes are the longest run at the front of themselves and the rest
pub record IsRun (bytes rest : List ℕ) : Type 0 where
  pub some : bytes ≢ []
  pub longest : bytes ≡ take_while is_run_byte (bytes ++ rest)

-- this is a piece where the rest follows it: a note ends at the first `*/`, a run is as long as it
-- can be, a name is not too long, and the last apostrophe of a text is not doubled
abbrev pub Fits : Piece → List ℕ → Type 0
Fits (Blank b) rest = is_white b ≡ true
Fits (Note body) rest = NeverCloses body
Fits (Run bytes) rest = IsRun bytes rest × (word_of bytes ≡ None → length bytes ≤ NAME_LIMIT)
Fits (Quoted body) rest = begins (nat_eq 39) rest ≡ false
Fits (Mark b) rest = mark_of b ≢ None

-- the text of the pieces
abbrev pub text_of : List Piece → List ℕ
text_of ps = flat_map spelled ps

-- each is a piece where the pieces after it and the rest follow
abbrev pub AreCut : List Piece → List ℕ → Type 0
AreCut [] rest = Unit {0}
AreCut (p ∷ ps) rest = Fits p (text_of ps ++ rest) × AreCut ps rest

-- the token of so many bytes that begins at a place, if there is one
abbrev pub token_of : Option Kind → ℕ → ℕ → List Token
token_of None at len = []
token_of (Some kind) at len = record { kind = kind; start = at; «end» = at + len } ∷ []

-- the tokens among pieces of which the first begins at this place
abbrev pub tokens_of : ℕ → List Piece → List Token
tokens_of at [] = []
tokens_of at (p ∷ ps) =
    token_of (kind_of p) at (length (spelled p)) ++ tokens_of (at + length (spelled p)) ps
