-- What a grammar sees of tokens: what each is, with its bytes, and where it begins.
use Rattle.std.specs.Prelude.{◌≡◌, ◌≢◌, ℕ, ◌+◌, ◌≤◌, true, false, ◌==◌, if◌then◌else◌, List, [], ◌∷◌, ◌++◌, length, map, slice_range, Option, Some, None, All}
use Rattle.std.specs.List.{list_all}
use Rattle.msc_lexer.specs.declared.TheConstants.{NAME_LIMIT}
use Rattle.msc_lexer.specs.declared.word.Word.{Word}
use Rattle.msc_lexer.specs.declared.token.Kind.{Kind}
use Rattle.msc_lexer.specs.declared.token.Kind.TheVariants as kinds
use Rattle.msc_lexer.specs.declared.token.Token.{Token}
use Rattle.msc_lexer.specs.Bytes.{is_run_byte, begins}
use Rattle.msc_lexer.specs.Words.{spelling, word_of}
use Rattle.msc_lexer.specs.Pieces.{Piece, Run, Fits, quoted, spelled, kind_of, text_of, AreCut, tokens_of}

-- what a token is to a grammar: a reserved word, a name, a text or a mark
pub data Symbol : Type 0 where
  Reserved : Word → Symbol
  Named : List ℕ → Symbol  -- a name, with its bytes
  Quoted : List ℕ → Symbol  -- a text, with the bytes that it holds
  Semicolon : Symbol
  Comma : Symbol
  Colon : Symbol
  LeftParen : Symbol
  RightParen : Symbol

-- a token as a grammar sees it
pub record Lexeme : Type 0 where
  pub symbol : Symbol
  pub place : ℕ

-- each doubled apostrophe halved, and the last byte left out
abbrev pub halved : List ℕ → List ℕ
halved [] = []
halved (b ∷ []) = []
halved (b ∷ c ∷ bs) = if b == 39 then 39 ∷ halved bs else b ∷ halved (c ∷ bs)

-- what a text between apostrophes holds: the bytes between them, each doubled apostrophe halved
abbrev pub unquoted : List ℕ → List ℕ
unquoted [] = []
unquoted (b ∷ bs) = halved bs

-- the symbol of a token of a kind with these bytes
abbrev pub symbol_of : Kind → List ℕ → Symbol
symbol_of (kinds.Word w) bytes = Reserved w
symbol_of kinds.Name bytes = Named bytes
symbol_of kinds.Text bytes = Quoted (unquoted bytes)
symbol_of kinds.Semicolon bytes = Semicolon
symbol_of kinds.Comma bytes = Comma
symbol_of kinds.Colon bytes = Colon
symbol_of kinds.LeftParen bytes = LeftParen
symbol_of kinds.RightParen bytes = RightParen

-- a token of a text, with its bytes
abbrev pub lexeme_of : List ℕ → Token → Lexeme
lexeme_of text t =
    record { symbol = symbol_of t.kind (slice_range text t.start t.«end»); place = t.start }

-- the tokens of a text, with their bytes
abbrev pub lexemes : List ℕ → List Token → List Lexeme
lexemes text tokens = map (lexeme_of text) tokens

-- the token stands in the text; where it is a text, its bytes are those of one
pub record IsWithin (text : List ℕ) (t : Token) : Type 0 where
  pub ordered : t.start ≤ t.«end»
  pub inside : t.«end» ≤ length text
  pub as_text : t.kind ≡ kinds.Text
      → (body : List ℕ) × (slice_range text t.start t.«end» ≡ quoted body)

-- all tokens stand in the text
abbrev pub AreWithin : List ℕ → List Token → Type 0
AreWithin text tokens = All (IsWithin text) tokens

-- a name that a text can have: letters, digits and underscores, one at least and not too many, that
-- are no reserved word
pub record IsName (name : List ℕ) : Type 0 where
  pub some : name ≢ []
  pub run : list_all is_run_byte name ≡ true
  pub free : word_of name ≡ None
  pub short : length name ≤ NAME_LIMIT

-- the name of a symbol, if it has one, is a name
abbrev pub HasName : Symbol → Type 0
HasName (Named name) = IsName name
HasName symbol = Unit {0}

-- the names of all symbols are names
abbrev pub HaveNames : List Lexeme → Type 0
HaveNames [] = Unit {0}
HaveNames (l ∷ ls) = HasName l.symbol × HaveNames ls

-- what a grammar sees of a piece that begins at a place
unfoldable pub lexeme_at : Option Kind → List ℕ → ℕ → List Lexeme
lexeme_at None bytes at = []
lexeme_at (Some kind) bytes at = record { symbol = symbol_of kind bytes; place = at } ∷ []

-- what a grammar sees of pieces of which the first begins at a place
unfoldable pub lexemes_of : ℕ → List Piece → List Lexeme
lexemes_of at [] = []
lexemes_of at (p ∷ ps) =
    lexeme_at (kind_of p) (spelled p) at ++ lexemes_of (at + length (spelled p)) ps

-- What is printed as pieces is read as those pieces: the laws that a printer needs.
pub record PrintsPieces : Type 0 where
  -- a spelled word is that word
  pub words : (w : Word) → word_of (spelling w) ≡ Some w
  -- words and names stand where no letter, digit or underscore follows
  pub word_fits : (w : Word) (rest : List ℕ) → begins is_run_byte rest ≡ false
      → Fits (Run (spelling w)) rest
  pub name_fits : (name rest : List ℕ) → IsName name → begins is_run_byte rest ≡ false
      → Fits (Run name) rest
  -- what stands between apostrophes is what was printed there
  pub texts : (body : List ℕ) → unquoted (quoted body) ≡ body
  -- pieces that fit may be joined
  pub joined : (ps qs : List Piece) (rest : List ℕ) → AreCut ps (text_of qs ++ rest)
      → AreCut qs rest → AreCut (ps ++ qs) rest
  -- the tokens of the printed text are the printed tokens
  pub seen : (ps : List Piece) → lexemes (text_of ps) (tokens_of 0 ps) ≡ lexemes_of 0 ps
