-- The draft of a text, its first fault, and what is answered (this project's profile of MSC/PR, ITU-T
-- Z.120).
use Rattle.std.specs.Prelude.{◌≡◌, ◌⊎◌, ℕ, Bool, true, false, List, [], ◌∷◌, ◌++◌, length, Result, Ok, Err, if◌then◌else◌}
use Rattle.msc_lexer.specs.declared.word.Word.{Word}
use Rattle.msc_lexer.specs.declared.word.Word.TheVariants.{Env, Condition, Set, Reset, Timeout, Create, Stop}
use Rattle.msc_lexer.specs.declared.token.Token.{Token}
use Rattle.msc_lexer.specs.Lexemes.{Symbol, Reserved, Lexeme, lexemes}
use Rattle.msc_lexer.specs.Lexing.{HasTokens, HasFault}
use Rattle.msc_parser.specs.declared.fault.What.{What}
use Rattle.msc_parser.specs.declared.fault.ParseFault.{ParseFault}
use Rattle.msc_parser.specs.declared.fault.ParseFault.TheVariants.{Lex, Unsupported, Expected, Memory}
use Rattle.msc_parser.specs.Grammar.{Tree, IsChart}
use Rattle.msc_parser.specs.Places.{Start, what, walk}

-- the reserved words that no chart of the profile has
abbrev pub is_refused : Word → Bool
is_refused Env = true
is_refused Condition = true
is_refused Set = true
is_refused Reset = true
is_refused Timeout = true
is_refused Create = true
is_refused Stop = true
is_refused w = false

-- the fault where something else was expected than this symbol: a refused word is told as such
abbrev pub refused_at : ℕ → What → Symbol → ParseFault
refused_at at w (Reserved word) = if is_refused word then Unsupported at word else Expected at w
refused_at at w symbol = Expected at w

-- the fault where something else was expected than these tokens, in a text of so many bytes
abbrev pub fault_at : ℕ → What → List Lexeme → ParseFault
fault_at len w [] = Expected len w
fault_at len w (l ∷ ls) = refused_at l.place w l.symbol

-- the text has tokens that are this chart
abbrev pub HasDraft : List ℕ → Tree → Type 0
HasDraft text t = (tokens : List Token) × HasTokens text tokens × IsChart (lexemes text tokens) t

-- some chart begins with these tokens
abbrev pub IsContinuable : List Lexeme → Type 0
IsContinuable front = (more : List Lexeme) × (t : Tree) × IsChart (front ++ more) t

-- no chart begins with `front` and the next token behind it, or, where none is left, `front` is none
abbrev pub IsEndOfGood : List Lexeme → List Lexeme → Type 0
IsEndOfGood front [] = (t : Tree) → IsChart front t → ⊥
IsEndOfGood front (l ∷ ls) = IsContinuable (front ++ l ∷ []) → ⊥

-- The first grammar fault of a text: it stands behind the tokens `front` that some chart begins with,
-- before the first token that no such chart goes on with, and tells what their place expects.
pub record IsGrammarFault (text : List ℕ) (fault : ParseFault) : Type 0 where
  pub tokens : List Token
  pub front : List Lexeme
  pub rest : List Lexeme
  pub have : HasTokens text tokens
  pub whole : lexemes text tokens ≡ front ++ rest
  pub good : IsContinuable front
  pub last : IsEndOfGood front rest
  pub fault_is : fault ≡ fault_at (length text) (what (walk Start front).0) rest

-- the first fault of a text: the lexical one, and where there is none that of the grammar
abbrev pub HasParseFault : List ℕ → ParseFault → Type 0
HasParseFault text Memory = ⊥
HasParseFault text (Lex f) = HasFault text f
HasParseFault text (Unsupported at w) = IsGrammarFault text (Unsupported at w)
HasParseFault text (Expected at w) = IsGrammarFault text (Expected at w)

-- what is answered where the text is this chart
abbrev pub IsDraftOrMemory : Tree → Result Tree ParseFault → Type 0
IsDraftOrMemory t (Ok d) = d ≡ t
IsDraftOrMemory t (Err e) = e ≡ Memory

-- what is answered where the text has this fault
abbrev pub IsFaultOrMemory : ParseFault → Result Tree ParseFault → Type 0
IsFaultOrMemory f (Ok d) = ⊥
IsFaultOrMemory f (Err e) = (e ≡ f) ⊎ (e ≡ Memory)

-- A list of tokens is at most one draft.
abbrev pub OneDraft : Type 0
OneDraft = (ls : List Lexeme) (t u : Tree) → IsChart ls t → IsChart ls u → t ≡ u

-- A text has at most one draft, at most one first fault, and never both.
pub record OneParsing : Type 0 where
  pub draft : (text : List ℕ) (t u : Tree) → HasDraft text t → HasDraft text u → t ≡ u
  pub fault : (text : List ℕ) (e f : ParseFault) → HasParseFault text e → HasParseFault text f
      → e ≡ f
  pub apart : (text : List ℕ) (t : Tree) (e : ParseFault) → HasDraft text t → HasParseFault text e
      → ⊥
