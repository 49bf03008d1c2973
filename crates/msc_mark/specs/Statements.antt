-- The comments that marks are read from are those of the statements of a draft's events.
use Rattle.std.specs.Prelude.{◌≡◌, ◌≤◌, ℕ, List, [], ◌∷◌, ◌++◌, length, slice_get, Option, MatchOption, cond}
use Rattle.std.specs.List.{enumerate_from, filter_map}
use Rattle.msc_lexer.specs.declared.word.Word.TheVariants as words
use Rattle.msc_lexer.specs.declared.token.Token.{Token}
use Rattle.msc_lexer.specs.Lexemes.{Reserved, Quoted, Semicolon, Lexeme, lexemes}
use Rattle.msc_lexer.specs.Lexing.{HasTokens}
use Rattle.msc_parser.specs.declared.tree.Statement.{Statement}
use Rattle.msc_parser.specs.Drafts.{statements_of}
use Rattle.msc_parser.specs.Grammar.{Tree, IsChart}
use Rattle.msc_place.specs.Standing.{begins_event, tokens_with, IsStatement}
use Rattle.msc_mark.specs.Comments.{comment_in, fault_from, fault_in, is_comment, mark_in, marks_from}

-- the comments of the statements of events, event by event
unfoldable pub comments_of : List Lexeme → List (Option Lexeme)
comments_of [] = []
comments_of (l ∷ ls) =
    cond (begins_event l.symbol) (comment_in ls ∷ comments_of ls) (comments_of ls)

-- `comment`, a text and `;`
abbrev pub comment_end : ℕ → List ℕ → ℕ → ℕ → List Lexeme
comment_end word bytes at close =
    record { symbol = Reserved words.Comment; place = word } ∷ record { symbol = Quoted bytes; place = at } ∷ record { symbol = Semicolon; place = close } ∷ []

-- the statement of event e ends with a comment, the text of which this is
pub record HasComment (text : List ℕ) (t : Tree) (e : ℕ) (comment : Lexeme) : Type 0 where
  pub event : Statement
  pub front : List Lexeme
  pub lead : List Lexeme
  pub word : ℕ
  pub bytes : List ℕ
  pub close : ℕ
  pub after : List Lexeme
  pub is : comment ≡ record { symbol = Quoted bytes; place = comment.place }
  pub statement : IsStatement text t e event front (lead ++ comment_end word bytes comment.place close) after

-- the statement of event e has no comment
pub record HasNoComment (text : List ℕ) (t : Tree) (e : ℕ) : Type 0 where
  pub event : Statement
  pub front : List Lexeme
  pub own : List Lexeme
  pub after : List Lexeme
  pub statement : IsStatement text t e event front own after
  pub none : tokens_with is_comment own ≡ 0

-- this is the comment of event e, or it has none
abbrev pub IsCommentOf : List ℕ → Tree → ℕ → Option Lexeme → Type 0
IsCommentOf text t e comment = MatchOption comment (HasNoComment text t e) (HasComment text t e)

-- Each event of a draft has its comment, if it has one, and there are no more. The marks of a text are
-- what these comments say, each with the number of its event, and the first faulty one is the first of
-- those that are faulty.
pub record CommentsAreThoseOfStatements : Type 0 where
  pub comments : (text : List ℕ) (t : Tree) (tokens : List Token) → HasTokens text tokens
      → IsChart (lexemes text tokens) t → (e : ℕ)
      → MatchOption (slice_get (comments_of (lexemes text tokens)) e) (length (statements_of t.sections) ≤ e) (IsCommentOf text t e)
  pub marks : (ls : List Lexeme)
      → marks_from 0 ls ≡ filter_map (λ p. mark_in p.0 p.1) (enumerate_from 0 (comments_of ls))
  pub fault : (ls : List Lexeme) → fault_from ls ≡ slice_get (filter_map fault_in (comments_of ls)) 0
