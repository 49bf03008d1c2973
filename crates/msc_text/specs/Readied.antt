-- The rows of blocked pairs and of races that are left, and the answer on ready instances.
use Rattle.std.specs.Prelude.{◌≡◌, ℕ, ◌<◌, ◌&&◌, Bool, List, [], ◌++◌, Option, None, Some, MatchOption, IsTrue, length, is_some}
use Rattle.std.specs.List.{All}
use Rattle.std.specs.Option.{option_copied}
use Rattle.msc_chart.specs.declared.queue.Queues.{Queues}
use Rattle.msc_chart.specs.Charts.{is_input}
use Rattle.msc_chart.specs.Drawings.{Drawing}
use Rattle.msc_chart.specs.Rounds.{two_rounds}
use Rattle.msc_ready.specs.Held.{ready_in, wiring_of, HasVisualOrder, ReadyChart}
use Rattle.msc_ready.specs.Rounds.{between_of, AreBetween}
use Rattle.msc_ready.specs.Running.{AreBlockedPairRuns}
use Rattle.msc_ready.specs.BlockedPairs.{IsBlockedPair}
use Rattle.msc_ready.specs.Views.{blocked_pairs_of, HasAhead}
use Rattle.msc_reason.specs.Named.{AreEventsOf}
use Rattle.msc_report.specs.EventTexts.{AreTextsOf}
use Rattle.msc_text.specs.Readying.{again_text, finishes, is_none_of, left_text, lines_of, more_after, readiness_of, ready_text, rest_in, AreStickFacts, StickFacts, PrintsAgain}
use Rattle.msc_text.specs.StickFormats.{closing_in}
use Rattle.msc_text.specs.declared.stick_format.StickFormat.{StickFormat}
use Rattle.msc_text.specs.declared.readying.ReadyAnswer.{ReadyAnswer}
use Rattle.msc_text.specs.declared.readying.StickTable.{StickTable}
use Rattle.msc_text.specs.declared.blocked_pairs.KnownRun.{KnownRun}

-- a blocked pair of this drawing can be printed with the one that is ahead of it, or with this run
pub record CanAppendStick (d : Drawing) (blocked_pair : ℕ × ℕ) (ahead : Option (ℕ × ℕ)) (run : Option (List ℕ)) : Type 0 where
  pub first : IsTrue (is_input d.events blocked_pair.0)
  pub second : IsTrue (is_input d.events blocked_pair.1)
  pub ahead_known : MatchOption ahead (Unit {0}) (λ p. (p.0 < length d.events) × (p.1 < length d.events))
  pub run_known : MatchOption run (Unit {0}) (AreEventsOf d)

-- a pair can be printed as a blocked pair: it is one, of the chart whose events are named
pub record CanPrintStick (r : ReadyChart) (named : Drawing) (ahead : List (Option (ℕ × ℕ))) (p : ℕ × ℕ) : Type 0 where
  pub blocked_pair : IsBlockedPair (wiring_of r) (ready_in r) p.0 p.1
  pub has_ahead : HasAhead r ahead
  pub same : r.chart ≡ named

-- these are the runs of pairs: each first blocked pair is shown by that of its second event
pub record ArePairRuns (r : ReadyChart) (runs : ℕ × ℕ → List ℕ) : Type 0 where
  pub each : ℕ → List ℕ
  pub are : AreBlockedPairRuns (wiring_of r) (ready_in r) each
  pub same : (p : ℕ × ℕ) → runs p ≡ each p.1

-- each of these runs is the one of its second event
abbrev pub AreRuns : (ℕ → List ℕ) → List KnownRun → Type 0
AreRuns runs = All (λ known. known.run.items ≡ runs known.second)

-- so it is where a run shows each first blocked pair with a second event
abbrev pub AreKnown : ReadyChart → List KnownRun → Type 0
AreKnown r known =
    (runs : ℕ → List ℕ) → AreBlockedPairRuns (wiring_of r) (ready_in r) runs → AreRuns runs known

-- this is a chart under an architecture whose instances are ready, or those of a list
pub record IsReadyOf (d : Drawing) (asked : Queues) (only : Option (List Bool)) (r : ReadyChart) : Type 0 where
  pub chart : r.chart ≡ d
  pub queues : r.queues ≡ asked
  pub lines : r.lines ≡ lines_of only

-- this is the chart of two rounds, if they are asked for
abbrev pub AreRoundsOf : Drawing → Queues → Option (List Bool) → Option StickTable → Type 0
AreRoundsOf d queues only None = Unit {0}
AreRoundsOf d queues only (Some two) = IsReadyOf (two_rounds d) queues only two.blocked_pairs × HasAhead two.blocked_pairs two.ahead.items

-- and it can be printed with the names of the events of two rounds
abbrev pub AreUnrolled : Drawing → Option StickTable → Type 0
AreUnrolled d None = Unit {0}
AreUnrolled d (Some two) = (two.blocked_pairs.chart ≡ two_rounds d) × HasAhead two.blocked_pairs two.ahead.items

-- the facts on two rounds of a chart: the blocked pairs between them, and the run of each that is
-- first
pub record AreBetweenRounds (d : Drawing) (r : ReadyChart) : Type 0 where
  pub visual : HasVisualOrder r
  pub blocked_pairs : AreBetween r d (between_of r d)
  pub runs : ℕ → List ℕ
  pub are_runs : AreBlockedPairRuns (wiring_of r) (ready_in r) runs

-- how many blocked pairs are between two rounds, if they are asked for
abbrev pub between_number : Drawing → Option StickTable → Option ℕ
between_number d None = None
between_number d (Some two) = Some (length (between_of two.blocked_pairs d))

-- this is the text on the blocked pairs between two rounds, if they are asked for
abbrev pub IsAgainText : StickFormat → Drawing → Option StickTable → ℕ → List ℕ → Type 0
IsAgainText format d None more text = text ≡ []
IsAgainText format d (Some two) more text =
    (runs : ℕ → List ℕ) × AreBlockedPairRuns (wiring_of two.blocked_pairs) (ready_in two.blocked_pairs) runs
    × (text ≡ again_text format d two.blocked_pairs two.ahead.items runs more)

-- there is such a text, and it is what is promised
abbrev pub HasAgainText : Drawing → Queues → Option (List Bool) → Option StickTable → Type 0
HasAgainText d queues only two =
    (more : ℕ) (format : StickFormat) → (text : List ℕ) × IsAgainText format d two more text
    × PrintsAgain (is_some two) d queues only more format (between_number d two) text

-- the answer can be printed
pub record CanPrintReady (answer : ReadyAnswer) : Type 0 where
  pub lines : (l : List Bool) → option_copied answer.query.only ≡ Some l → length l ≡ length answer.one.now.blocked_pairs.chart.instances
  pub ahead : HasAhead answer.one.now.blocked_pairs answer.one.now.ahead.items
  pub texts : AreTextsOf answer.one.now.blocked_pairs.chart answer.texts.now
  pub two : AreUnrolled answer.names.chart.now (option_copied answer.two)
  pub count : answer.count ≡ length (blocked_pairs_of answer.one.now.blocked_pairs)

-- this is its text
pub record IsReadyText (answer : ReadyAnswer) (text : List ℕ) : Type 0 where
  pub known : StickFacts
  pub is : AreStickFacts answer.one.now.blocked_pairs known
  pub ahead : known.ahead ≡ answer.one.now.ahead.items
  pub may : known.may ≡ answer.may
  pub behind : List ℕ
  pub again : IsAgainText answer.query.format answer.names.chart.now (option_copied answer.two) (more_after answer.one.now.blocked_pairs answer.query.show known) behind
  pub same : text
      ≡ ready_text answer.query.format answer.one.now.blocked_pairs (option_copied answer.query.only) answer.query.show known
      ++ (rest_in answer.query.format (left_text answer.query.format answer.one.now.blocked_pairs (option_copied answer.query.only) known) behind
      ++ closing_in answer.query.format (readiness_of answer.one.now.blocked_pairs (option_copied answer.query.only) known (between_number answer.names.chart.now (option_copied answer.two))))

-- and it is answered whether the system finishes, and there is no blocked pair between two rounds
abbrev pub IsReadyAnswer : ReadyAnswer → Bool → Type 0
IsReadyAnswer answer passed =
    (k : StickFacts) → AreStickFacts answer.one.now.blocked_pairs k
    → passed ≡ (finishes answer.one.now.blocked_pairs (option_copied answer.query.only) k && is_none_of (between_number answer.names.chart.now (option_copied answer.two)))
