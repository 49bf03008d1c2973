-- The tokens of a text, and its first lexical fault (this project's profile of MSC/PR).
use Rattle.std.specs.Prelude.{◌≡◌, ◌⊎◌, ℕ, ◌≤◌, ◌<◌, false, ◌||◌, ◌&&◌, ◌==◌, nat_eq, List, [], ◌∷◌, ◌++◌, length, None, is_some, Result, Ok, Err}
use Rattle.std.specs.Global.{Vec}
use Rattle.msc_lexer.specs.declared.TheConstants.{TEXT_LIMIT, NAME_LIMIT}
use Rattle.msc_lexer.specs.declared.token.Token.{Token}
use Rattle.msc_lexer.specs.declared.fault.LexFault.{LexFault}
use Rattle.msc_lexer.specs.declared.fault.LexFault.TheVariants.{TooLong, BadByte, OpenNote, OpenText, LongName, Memory}
use Rattle.msc_lexer.specs.Bytes.{is_white, is_run_byte, begins}
use Rattle.msc_lexer.specs.Words.{word_of}
use Rattle.msc_lexer.specs.Pieces.{Piece, NeverCloses, doubled, mark_of, IsRun, text_of, AreCut, tokens_of}

-- the text is short enough and is made of pieces, of which these are the tokens
pub record HasTokens (text : List ℕ) (tokens : List Token) : Type 0 where
  pub pieces : List Piece
  pub short : length text ≤ TEXT_LIMIT
  pub whole : text ≡ text_of pieces
  pub cut : AreCut pieces []
  pub made : tokens ≡ tokens_of 0 pieces

-- the first byte begins no piece
abbrev pub BeginsNothing : List ℕ → Type 0
BeginsNothing [] = ⊥
BeginsNothing (b ∷ bs) =
    ((is_white b || is_run_byte b || is_some (mark_of b) || b == 39) ≡ false) × ((b == 47 && begins (nat_eq 42) bs) ≡ false)

-- no piece stands at the front of the text, for the reason and at the place that the fault tells
abbrev pub IsFlaw : LexFault → ℕ → List ℕ → Type 0
IsFlaw TooLong place text = ⊥
IsFlaw (BadByte at) place text = (at ≡ place) × BeginsNothing text
IsFlaw (OpenNote at) place text =
    (at ≡ place) × (body : List ℕ) × (text ≡ 47 ∷ 42 ∷ body) × NeverCloses body
IsFlaw (OpenText at) place text = (at ≡ place) × (body : List ℕ) × (text ≡ 39 ∷ doubled body)
IsFlaw (LongName at) place text =
    (at ≡ place) × (bytes rest : List ℕ) × (text ≡ bytes ++ rest) × IsRun bytes rest × (word_of bytes ≡ None) × (NAME_LIMIT < length bytes)
IsFlaw Memory place text = ⊥

-- the text is made of pieces up to a place at which no piece stands
pub record IsFirstFlaw (text : List ℕ) (fault : LexFault) : Type 0 where
  pub pieces : List Piece
  pub rest : List ℕ
  pub short : length text ≤ TEXT_LIMIT
  pub whole : text ≡ text_of pieces ++ rest
  pub cut : AreCut pieces rest
  pub flaw : IsFlaw fault (length (text_of pieces)) rest

-- the first lexical fault of a text: that it is too long, or else the first flaw
abbrev pub HasFault : List ℕ → LexFault → Type 0
HasFault text TooLong = TEXT_LIMIT < length text
HasFault text Memory = ⊥
HasFault text (BadByte at) = IsFirstFlaw text (BadByte at)
HasFault text (OpenNote at) = IsFirstFlaw text (OpenNote at)
HasFault text (OpenText at) = IsFirstFlaw text (OpenText at)
HasFault text (LongName at) = IsFirstFlaw text (LongName at)

-- these tokens are answered, or want of memory
abbrev pub IsOkOrMemory : List Token → Result (Vec Token) LexFault → Type 0
IsOkOrMemory ts (Ok v) = v.items ≡ ts
IsOkOrMemory ts (Err e) = e ≡ Memory

-- this fault is answered, or want of memory
abbrev pub IsErrOrMemory : LexFault → Result (Vec Token) LexFault → Type 0
IsErrOrMemory f (Ok v) = ⊥
IsErrOrMemory f (Err e) = (e ≡ f) ⊎ (e ≡ Memory)

-- A text has at most one list of tokens, at most one first fault, and never both.
pub record OneReading : Type 0 where
  pub tokens : (text : List ℕ) (ts us : List Token) → HasTokens text ts → HasTokens text us
      → ts ≡ us
  pub fault : (text : List ℕ) (f g : LexFault) → HasFault text f → HasFault text g → f ≡ g
  pub apart : (text : List ℕ) (ts : List Token) (f : LexFault) → HasTokens text ts → HasFault text f
      → ⊥
