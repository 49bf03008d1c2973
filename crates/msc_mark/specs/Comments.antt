-- The comments of events' statements, and the marks among them. The statement of an event goes from the
-- token that begins it up to the first `;`; its comment is the text behind its first `comment`.
use Rattle.std.specs.Prelude.{◌≡◌, ◌⊎◌, ℕ, ◌+◌, Bool, true, false, cond, List, [], ◌∷◌, ◌++◌, Option, None, Some, Result, Ok, Err}
use Rattle.std.specs.Option.{option_or, option_and_then}
use Rattle.msc_lexer.specs.declared.word.Word.TheVariants as words
use Rattle.msc_lexer.specs.declared.token.Token.{Token}
use Rattle.msc_lexer.specs.Lexemes.{Symbol, Reserved, Quoted, Semicolon, Lexeme, lexemes}
use Rattle.msc_lexer.specs.Lexing.{HasTokens}
use Rattle.msc_place.specs.Standing.{begins_event}
use Rattle.msc_mark.specs.declared.fault.MarkFault.{MarkFault}
use Rattle.msc_mark.specs.declared.fault.MarkFault.TheVariants.{Part, Reason, Memory}
use Rattle.msc_mark.specs.declared.mark.Mark.{Mark}
use Rattle.msc_mark.specs.Readings.{fault_of, mark_of}

-- `;`
abbrev pub is_semicolon : Symbol → Bool
is_semicolon Semicolon = true
is_semicolon symbol = false

-- `comment`
abbrev pub is_comment : Symbol → Bool
is_comment (Reserved words.Comment) = true
is_comment symbol = false

-- a text
abbrev pub is_text : Symbol → Bool
is_text (Quoted bytes) = true
is_text symbol = false

-- the bytes that it holds
abbrev pub held : Symbol → List ℕ
held (Quoted bytes) = bytes
held symbol = []

-- the first token, if it is a text
abbrev pub first_text : List Lexeme → Option Lexeme
first_text [] = None
first_text (l ∷ ls) = cond (is_text l.symbol) (Some l) None

-- the text of the comment of a statement, whose tokens behind the first word these begin with
unfoldable pub comment_in : List Lexeme → Option Lexeme
comment_in [] = None
comment_in (l ∷ ls) =
    cond (is_semicolon l.symbol) None (cond (is_comment l.symbol) (first_text ls) (comment_in ls))

-- the mark that a comment is, in the statement of an event
abbrev pub mark_in : ℕ → Option Lexeme → Option Mark
mark_in event comment = option_and_then (λ l. mark_of event l.place (held l.symbol)) comment

-- why it is none, if it is to be one
abbrev pub fault_in : Option Lexeme → Option MarkFault
fault_in comment = option_and_then (λ l. fault_of l.place (held l.symbol)) comment

-- what there is, as a list
abbrev pub listed : {T : Type 0} → Option T → List T
listed None = []
listed (Some x) = x ∷ []

-- the marks of the statements of events, of which the first has this number, ascending
unfoldable pub marks_from : ℕ → List Lexeme → List Mark
marks_from event [] = []
marks_from event (l ∷ ls) =
    cond (begins_event l.symbol) (listed (mark_in event (comment_in ls)) ++ marks_from (event + 1) ls) (marks_from event ls)

-- the first of their faulty comments
unfoldable pub fault_from : List Lexeme → Option MarkFault
fault_from [] = None
fault_from (l ∷ ls) =
    cond (begins_event l.symbol) (option_or (fault_in (comment_in ls)) (fault_from ls)) (fault_from ls)

-- what appending the mark of a comment answers: it is appended, or the comment is faulty
abbrev pub AddsComment : ℕ → Option Lexeme → List Mark → List Mark → Result (Unit {0}) MarkFault → Type 0
AddsComment event comment before after (Ok u) =
    (after ≡ before ++ listed (mark_in event comment)) × (fault_in comment ≡ None)
AddsComment event comment before after (Err Memory) = Unit {0}
AddsComment event comment before after (Err (Part at)) = fault_in comment ≡ Some (Part at)
AddsComment event comment before after (Err (Reason at)) = fault_in comment ≡ Some (Reason at)

-- these are the tokens of the text, or there are none
abbrev pub AreOwn : List ℕ → List Token → Type 0
AreOwn text tokens = (tokens ≡ []) ⊎ HasTokens text tokens

-- these are the marks of the text, and no comment is faulty
pub record HasMarks (text : List ℕ) (tokens : List Token) (marks : List Mark) : Type 0 where
  pub all : marks ≡ marks_from 0 (lexemes text tokens)
  pub faultless : fault_from (lexemes text tokens) ≡ None

-- this is the first faulty comment of the text
abbrev pub HasMarkFault : List ℕ → MarkFault → Type 0
HasMarkFault text fault =
    (tokens : List Token) × HasTokens text tokens × (fault_from (lexemes text tokens) ≡ Some fault)

-- what is answered: the marks of the text, or its first faulty comment
abbrev pub AreMarksOf : List ℕ → Result (List Mark) MarkFault → Type 0
AreMarksOf text (Ok marks) =
    (tokens : List Token) → HasTokens text tokens → HasMarks text tokens marks
AreMarksOf text (Err Memory) = Unit {0}
AreMarksOf text (Err (Part at)) = HasMarkFault text (Part at)
AreMarksOf text (Err (Reason at)) = HasMarkFault text (Reason at)
