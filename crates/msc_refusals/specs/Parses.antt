-- The refusal of a text that has no draft.
use Rattle.std.specs.Prelude.{◌≡◌, ℕ, List, Option, None, Some}
use Rattle.msc_fault_words.specs.TextFaults.{parse}
use Rattle.msc_lexer.specs.Lexing.{HasTokens}
use Rattle.msc_lexer.specs.declared.fault.LexFault.{LexFault}
use Rattle.msc_lexer.specs.declared.fault.LexFault.TheVariants as lexical
use Rattle.msc_lexer.specs.declared.token.Token.{Token}
use Rattle.msc_notes.specs.declared.note.Note.{Note}
use Rattle.msc_parser.specs.declared.fault.ParseFault.{ParseFault}
use Rattle.msc_parser.specs.declared.fault.ParseFault.TheVariants as grammar
use Rattle.msc_place.specs.TokensAt.{IsTokenAt}
use Rattle.msc_place.specs.declared.tokens_at.TokenAt.{TokenAt}
use Rattle.msc_refusals.specs.Answers.{IsRefusal}
use Rattle.msc_refusals.specs.Parts.{name_past}
use Rattle.msc_refusals.specs.declared.answer.RefusedText.{RefusedText}

-- the place after a token, or this place if there is none
abbrev pub token_past : ℕ → Option Token → ℕ
token_past at None = at
token_past at (Some token) = token.«end»

-- this is the place after the token at a place of the text
abbrev pub IsTokenPast : List ℕ → ℕ → ℕ → Type 0
IsTokenPast text at past = (tokens : List Token) → HasTokens text tokens
    → (spot : TokenAt) × IsTokenAt tokens at spot × (past ≡ token_past at spot.token)

-- the place after a name that is too long; of any other lexical fault its place
abbrev pub lexical_past : List ℕ → LexFault → ℕ
lexical_past text (lexical.LongName at) = name_past text at
lexical_past text (lexical.BadByte at) = at
lexical_past text (lexical.OpenNote at) = at
lexical_past text (lexical.OpenText at) = at
lexical_past text lexical.TooLong = 0
lexical_past text lexical.Memory = 0

-- this is the place after what the first fault of a text is about
abbrev pub IsPast : List ℕ → ParseFault → ℕ → Type 0
IsPast text (grammar.Lex fault) past = past ≡ lexical_past text fault
IsPast text (grammar.Unsupported at word) past = IsTokenPast text at past
IsPast text (grammar.Expected at what) past = IsTokenPast text at past
IsPast text grammar.Memory past = past ≡ 0

-- a text is refused so for its first fault, with these notes on it
abbrev pub IsParseRefusal : RefusedText → ParseFault → List Note → List ℕ → Type 0
IsParseRefusal r fault notes printed =
    (past : ℕ) × IsPast r.text.now fault past × IsRefusal r (parse r.text.now past notes fault) printed
