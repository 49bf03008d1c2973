-- The queues that a text names itself, and where it does.
use Rattle.std.specs.Prelude.{◌≡◌, ℕ, Bool, true, false, List, [], ◌∷◌, drop, MatchResult, Option, None, Some, Result, Ok, Err}
use Rattle.msc_lexer.specs.declared.token.Token.{Token}
use Rattle.msc_lexer.specs.Lexing.{HasTokens}
use Rattle.msc_links.specs.Comments.{OwnText, Reading, says_nothing, unreadable, says, chart_reading_of, own_text, own_reading}
use Rattle.msc_links.specs.declared.comment.OwnFault.{OwnFault}
use Rattle.msc_links.specs.declared.comment.OwnFault.TheVariants.{Expected}
use Rattle.msc_links.specs.declared.comment.OwnQueues.{OwnQueues}
use Rattle.msc_mark.specs.ChartComments.{PlainComment, chart_comment}
use Rattle.msc_mermaid.specs.declared.statement.Span.{Span}
use Rattle.msc_notes.specs.Texts.{StandsAt}
use Rattle.msc_report.specs.declared.fault.Fault.TheVariants.{Memory}
use Rattle.msc_scenario_marks.specs.Places.{position_at}
use Rattle.msc_answer.specs.Spans.{bytes_at}
use Rattle.msc_answer.specs.declared.ending.Refusal.{Refusal}
use Rattle.msc_answer.specs.declared.ending.Refusal.TheVariants as refusals
use Rattle.msc_answer.specs.declared.own.LinkRefusal.TheVariants.{Unclear}
use Rattle.msc_answer.specs.declared.own.OwnComment.{OwnComment}
use Rattle.msc_answer.specs.declared.own.OwnPlace.{OwnPlace}

-- What a text says of its queues: nothing; something that cannot be read, in the comment at a place;
-- or what they are, in the comment at a place.
pub data OwnSaid : Type 0 where
  silent : OwnSaid
  unclear : ℕ → OwnSaid
  named : ℕ → OwnText → OwnSaid

-- what the comment at a place says. Servers are not supported, so `serves` cannot be read
abbrev pub said_at : ℕ → Reading → OwnSaid
said_at at says_nothing = silent
said_at at unreadable = unclear at
said_at at (says own) = named at own

-- what the comment after the name of a chart says
abbrev pub said_after_name : Option PlainComment → OwnSaid
said_after_name None = silent
said_after_name (Some c) = said_at c.at (chart_reading_of c.bytes)

-- what the text of a chart says
abbrev pub SaysInChart : List ℕ → OwnSaid → Type 0
SaysInChart text said = (tokens : List Token) → HasTokens text tokens → said ≡ said_after_name (chart_comment text tokens)

-- what a comment line says: it begins with two percent signs
abbrev pub said_on_line : List ℕ → Span → OwnSaid
said_on_line text c = said_at c.first (chart_reading_of (drop 2 (bytes_at text c)))

-- the first of two that says something
abbrev pub said_first : OwnSaid → OwnSaid → OwnSaid
said_first silent other = other
said_first (unclear at) other = unclear at
said_first (named at own) other = named at own

-- what a diagram with these comment lines says: what the first of them says that says something
unfoldable pub said_in : List ℕ → List Span → OwnSaid
said_in text [] = silent
said_in text (c ∷ cs) = said_first (said_on_line text c) (said_in text cs)

-- what a text says if it is asked for its own queues
abbrev pub SaysIf : Bool → (OwnSaid → Type 0) → OwnSaid → Type 0
SaysIf false holds said = said ≡ silent
SaysIf true holds said = holds said

-- how a refusal shows a place in a chart: by its byte, and for editors by its line and column
pub record ShowsInChart (text : List ℕ) (at : ℕ) (place : OwnPlace) : Type 0 where
  pub at_is : place.at ≡ at
  pub number_is : place.number ≡ at
  pub position_is : StandsAt text at place.position

-- how it shows a place in a diagram: by its line, and for editors by its line and column
pub record ShowsInDiagram (text : List ℕ) (at : ℕ) (place : OwnPlace) : Type 0 where
  pub at_is : place.at ≡ at
  pub position_is : place.position ≡ position_at text at
  pub number_is : place.number ≡ place.position.line

-- a comment was read so
abbrev pub IsReadAs : Reading → Result (Option OwnQueues) OwnFault → Type 0
IsReadAs reading answer =
    MatchResult answer (λ own. own_reading own ≡ reading) (λ fault. (fault ≡ Expected) → reading ≡ unreadable)

-- what the code has found in a comment that reads so, at a place that is shown so
abbrev pub IsOwnAt : OwnPlace → Reading → Result (Option OwnComment) Refusal → Type 0
IsOwnAt place reading (Ok None) = reading ≡ says_nothing
IsOwnAt place reading (Ok (Some own)) = (reading ≡ says (own_text own.queues)) × (own.place ≡ place)
IsOwnAt place reading (Err (refusals.Link (Unclear other))) = (reading ≡ unreadable) × (other ≡ place)
IsOwnAt place reading (Err (refusals.Fault Memory)) = Unit {0}
IsOwnAt place reading (Err refusal) = ⊥

-- what the code has found in a text, or why it cannot be read. What is said and how places are shown
-- is given.
abbrev pub IsOwnBy : (OwnSaid → Type 0) → (ℕ → OwnPlace → Type 0) → Result (Option OwnComment) Refusal → Type 0
IsOwnBy holds shows (Ok None) = holds silent
IsOwnBy holds shows (Ok (Some own)) = (at : ℕ) × holds (named at (own_text own.queues)) × shows at own.place
IsOwnBy holds shows (Err (refusals.Link (Unclear place))) = (at : ℕ) × holds (unclear at) × shows at place
IsOwnBy holds shows (Err (refusals.Fault Memory)) = Unit {0}
IsOwnBy holds shows (Err refusal) = ⊥

-- the text says nothing of its queues, or it names some
abbrev pub IsSilent : (OwnSaid → Type 0) → Bool → Type 0
IsSilent holds true = holds silent
IsSilent holds false = (at : ℕ) × (own : OwnText) × holds (named at own)
