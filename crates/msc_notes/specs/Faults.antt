-- Where faults stand in their texts, and what their notes say.
use Rattle.std.specs.Prelude.{◌≡◌, ◌⊎◌, ℕ, ◌<◌, ◌≤◌, true, List, length, take, count_by, slice_get, Option, Some, None, MatchOption}
use Rattle.msc_lexer.specs.declared.fault.LexFault.{LexFault}
use Rattle.msc_lexer.specs.declared.fault.LexFault.TheVariants as lexical
use Rattle.msc_parser.specs.declared.fault.ParseFault.{ParseFault}
use Rattle.msc_parser.specs.declared.fault.ParseFault.TheVariants as grammar
use Rattle.msc_parser.specs.declared.tree.Signal.{Signal}
use Rattle.msc_parser.specs.declared.tree.Statement.{Statement}
use Rattle.msc_parser.specs.declared.tree.Statement.TheVariants.{Message}
use Rattle.msc_parser.specs.Drafts.{statements_of}
use Rattle.msc_parser.specs.Grammar.{Tree}
use Rattle.msc_chart.specs.declared.TheConstants.{ACTION_LIMIT, INSTANCE_LIMIT, MESSAGE_LIMIT}
use Rattle.msc_chart.specs.declared.fault.ChartFault.{ChartFault}
use Rattle.msc_chart.specs.declared.fault.ChartFault.TheVariants as charts
use Rattle.msc_place.specs.Standing.{BeginsEvent, NamesAddress, NamesDecl, NamesSection}
use Rattle.msc_notes.specs.declared.counting.Sort.{Sort}
use Rattle.msc_notes.specs.declared.counting.Sort.TheVariants.{Output, Input, Action}
use Rattle.msc_notes.specs.Sorts.{is_of}

-- the place of a lexical fault, if it has one
abbrev pub lexical_place : LexFault → Option ℕ
lexical_place lexical.TooLong = None
lexical_place (lexical.BadByte at) = Some at
lexical_place (lexical.OpenNote at) = Some at
lexical_place (lexical.OpenText at) = Some at
lexical_place (lexical.LongName at) = Some at
lexical_place lexical.Memory = None

-- the place of the first fault of a text, if it has one
abbrev pub parse_place : ParseFault → Option ℕ
parse_place (grammar.Lex fault) = lexical_place fault
parse_place (grammar.Unsupported at word) = Some at
parse_place (grammar.Expected at what) = Some at
parse_place grammar.Memory = None

-- event e is of this sort, and before it stand so many of it
pub record IsNth (sort : Sort) (count : ℕ) (ss : List Statement) (e : ℕ) : Type 0 where
  pub statement : Statement
  pub listed : slice_get ss e ≡ Some statement
  pub is_one : is_of sort statement ≡ true
  pub earlier : count_by (is_of sort) (take e ss) ≡ count

-- event e is an output, or an input, that is one too many
abbrev pub IsMessageTooMany : List Statement → ℕ → Type 0
IsMessageTooMany ss e = IsNth Output MESSAGE_LIMIT ss e ⊎ IsNth Input MESSAGE_LIMIT ss e

-- event e is the first such
pub record IsFirstTooMany (ss : List Statement) (e : ℕ) : Type 0 where
  pub one : IsMessageTooMany ss e
  pub first : (f : ℕ) → f < e → IsMessageTooMany ss f → ⊥

-- the statement of such an event begins at this place
abbrev pub BeginsSome : (ℕ → Type 0) → List ℕ → Tree → ℕ → Type 0
BeginsSome Such text t at = (e : ℕ) × Such e × BeginsEvent text t e at

-- there is no such event
abbrev pub HasNone : (ℕ → Type 0) → Type 0
HasNone Such = (e : ℕ) → Such e → ⊥

-- event e is no message event of the draft
abbrev pub HasNoMessage : Tree → ℕ → Type 0
HasNoMessage t e =
    (event : Signal) → slice_get (statements_of t.sections) e ≡ Some (Message event) → ⊥

-- the statement of event e begins at this place, or there is no such event
abbrev pub BeginsOrNone : List ℕ → Tree → ℕ → Option ℕ → Type 0
BeginsOrNone text t e o =
    MatchOption o (length (statements_of t.sections) ≤ e) (BeginsEvent text t e)

-- the place of a fault of the draft, or none where the draft has nothing that it could be of
abbrev pub IsChartPlace : List ℕ → Tree → ChartFault → Option ℕ → Type 0
IsChartPlace text t charts.TooManyInstances o =
    MatchOption o (length t.sections ≤ INSTANCE_LIMIT) (NamesSection text t INSTANCE_LIMIT)
IsChartPlace text t (charts.TwiceInstance i) o =
    MatchOption o (length t.sections ≤ i) (NamesSection text t i)
IsChartPlace text t (charts.HeaderWithoutBody k) o =
    MatchOption o (length t.header ≤ k) (NamesDecl text t k)
IsChartPlace text t (charts.UnknownAddress e) o =
    MatchOption o (HasNoMessage t e) (NamesAddress text t e)
IsChartPlace text t charts.TooManyMessages o =
    MatchOption o (HasNone (IsFirstTooMany (statements_of t.sections))) (BeginsSome (IsFirstTooMany (statements_of t.sections)) text t)
IsChartPlace text t charts.TooManyActions o =
    MatchOption o (HasNone (IsNth Action ACTION_LIMIT (statements_of t.sections))) (BeginsSome (IsNth Action ACTION_LIMIT (statements_of t.sections)) text t)
IsChartPlace text t (charts.TwiceEvent e) o = BeginsOrNone text t e o
IsChartPlace text t (charts.UnmatchedOut e) o = BeginsOrNone text t e o
IsChartPlace text t (charts.UnmatchedIn e) o = BeginsOrNone text t e o
IsChartPlace text t (charts.Cyclic e) o = BeginsOrNone text t e o
IsChartPlace text t charts.Memory o = o ≡ None
