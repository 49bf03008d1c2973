-- What is printed of a chart whose instances are ready, or some of them.
use Rattle.std.specs.Prelude.{◌≡◌, ◌↔◌, ◌-◌, ℕ, Bool, true, false, ◌&&◌, cond, not, List, [], ◌++◌, Option, None, Some, IsTrue, get_or, is_some, length, nat_eq}
use Rattle.std.specs.List.{count_by, flat_map}
use Rattle.msc_chart.specs.declared.queue.Queues.{Queues}
use Rattle.msc_chart.specs.Drawings.{Drawing, IsAccepted}
use Rattle.msc_chart.specs.Lists.{pairs_of}
use Rattle.msc_chart.specs.Rounds.{two_rounds}
use Rattle.msc_order.specs.Tables.{Table}
use Rattle.msc_print.specs.Rows.{count_after, rows_from}
use Rattle.msc_ready.specs.Finishing.{MayFinish}
use Rattle.msc_ready.specs.Held.{ready_chart, ready_in, wiring_of, HasVisualOrder, ReadyChart}
use Rattle.msc_ready.specs.Rounds.{between_of, AreBetween}
use Rattle.msc_ready.specs.Running.{AreBlockedPairRuns}
use Rattle.msc_ready.specs.BlockedPairs.{AreLeft}
use Rattle.msc_ready.specs.Views.{blocked_pairs_of, AreAhead, AreBlockedPairs}
use Rattle.msc_report.specs.BlockedPairs.{ready_head}
use Rattle.msc_report.specs.Counts.{ready_tally_line}
use Rattle.msc_report.specs.declared.ready_format.ReadyFormat.{ReadyFormat}
use Rattle.msc_report.specs.declared.ready_format.ReadyFormat.TheVariants.{Lines, Count, Editor}
use Rattle.msc_text.specs.StickFormats.{again_count_in, again_texts, closing_in, comes_left_last, left_count_in, left_race_in, once_texts, runs_in}
use Rattle.msc_text.specs.declared.stick_format.StickFormat.{StickFormat}
use Rattle.msc_text.specs.declared.stick_format.StickFormat.TheVariants.{Plain, Full}
use Rattle.msc_wording.specs.declared.readying.SpokenReadiness.{SpokenReadiness}

-- what is known of a chart with ready instances: whether some ready run is whole, of each event as
-- the second of blocked pairs which blocked pair is ahead of it, the run of each that is first, and
-- which races are left
pub record StickFacts : Type 0 where
  pub may : Bool
  pub ahead : List (Option (ℕ × ℕ))
  pub runs : ℕ → List ℕ
  pub left : ℕ → ℕ → Bool

-- it is what they are
pub record AreStickFacts (r : ReadyChart) (k : StickFacts) : Type 0 where
  pub may : IsTrue k.may ↔ MayFinish (wiring_of r) (ready_in r)
  pub ahead : AreAhead r k.ahead (length r.chart.events)
  pub runs : AreBlockedPairRuns (wiring_of r) (ready_in r) k.runs
  pub left : AreLeft (wiring_of r) (ready_in r) k.left

-- the blocked pair that is ahead of those with this second event, where there is one
abbrev pub ahead_in : List (Option (ℕ × ℕ)) → ℕ → Option (ℕ × ℕ)
ahead_in all f = get_or all f None

-- how many of these blocked pairs are first: no blocked pair is ahead of them
abbrev pub first_in : List (Option (ℕ × ℕ)) → List (ℕ × ℕ) → ℕ
first_in ahead pairs = count_by (λ p. not (is_some (ahead_in ahead p.1))) pairs

-- a run, where so many more are shown
abbrev pub shown_run : ℕ → List ℕ → Option (List ℕ)
shown_run more run = cond (nat_eq more 0) None (Some run)

-- the same, where no blocked pair is ahead
abbrev pub run_if : Option (ℕ × ℕ) → ℕ → List ℕ → Option (List ℕ)
run_if (Some p) more run = None
run_if None more run = shown_run more run

-- how many more runs are shown behind a blocked pair: one less where it is first
abbrev pub shown_after : ℕ → Option (ℕ × ℕ) → ℕ
shown_after more (Some p) = more
shown_after more None = more - 1

-- and that of a pair of events, by its second
abbrev pub after_stick : List (Option (ℕ × ℕ)) → ℕ → ℕ × ℕ → ℕ
after_stick ahead more p = shown_after more (ahead_in ahead p.1)

-- how many more runs are shown behind these blocked pairs
abbrev pub left_behind : List (Option (ℕ × ℕ)) → ℕ → List (ℕ × ℕ) → ℕ
left_behind ahead more blocked_pairs = count_after (after_stick ahead) more blocked_pairs

-- a blocked pair with what shows it, where so many more runs are shown
abbrev pub told_stick : (ℕ × ℕ → Option (ℕ × ℕ) → Option (List ℕ) → List ℕ) → List (Option (ℕ × ℕ)) → (ℕ × ℕ → List ℕ) → ℕ → ℕ × ℕ → List ℕ
told_stick text ahead runs more p = text p (ahead_in ahead p.1) (run_if (ahead_in ahead p.1) more (runs p))

-- these blocked pairs in their order; the run of a blocked pair is that of its second event
abbrev pub told_sticks : (ℕ × ℕ → Option (ℕ × ℕ) → Option (List ℕ) → List ℕ) → List (Option (ℕ × ℕ)) → (ℕ → List ℕ) → ℕ → List (ℕ × ℕ) → List ℕ
told_sticks text ahead runs more blocked_pairs =
    rows_from (told_stick text ahead (λ p. runs p.1)) (after_stick ahead) more blocked_pairs

-- how many races are left, and each of them in their order
abbrev pub told_left : StickFormat → Drawing → List (ℕ × ℕ) → List ℕ
told_left format d pairs = left_count_in format (length pairs) ++ flat_map (left_race_in format d) pairs

-- the races that are left are told where not all instances are ready, and there is no blocked pair
abbrev pub tells_left : Option (List Bool) → ℕ → Bool
tells_left only count = is_some only && nat_eq count 0

-- the lines that are ready: without a list all
abbrev pub lines_of : Option (List Bool) → List Bool
lines_of None = []
lines_of (Some lines) = lines

-- the races that are left, as pairs
abbrev pub left_pairs : ReadyChart → StickFacts → List (ℕ × ℕ)
left_pairs r k = pairs_of k.left (length r.chart.events)

-- whether the system finishes, and no race is left where these are told
abbrev pub finishes : ReadyChart → Option (List Bool) → StickFacts → Bool
finishes r None k = nat_eq (length (blocked_pairs_of r)) 0
finishes r (Some lines) k = nat_eq (length (blocked_pairs_of r)) 0 && nat_eq (length (left_pairs r k)) 0

-- how many races are left, if these are told
abbrev pub left_number : ReadyChart → Option (List Bool) → StickFacts → Option ℕ
left_number r only k =
    cond (tells_left only (length (blocked_pairs_of r))) (Some (length (left_pairs r k))) None

-- what is written before the blocked pairs: in lines of text a head, and for a count the line of the
-- file
abbrev pub plain_head : ReadyFormat → ReadyChart → Option (List Bool) → StickFacts → List ℕ
plain_head (Lines style) r only k = ready_head r.chart r.queues only (length (blocked_pairs_of r)) k.may
plain_head (Count file) r only k = ready_tally_line file.now (length (blocked_pairs_of r)) (first_in k.ahead (blocked_pairs_of r))
plain_head (Editor event_positions) r only k = []

-- findings for people have none
abbrev pub head_in : StickFormat → ReadyChart → Option (List Bool) → StickFacts → List ℕ
head_in (Plain format) r only k = plain_head format r only k
head_in (Full full) r only k = []

-- what is written of the races that are left, where they are told
abbrev pub left_text : StickFormat → ReadyChart → Option (List Bool) → StickFacts → List ℕ
left_text format r only k =
    cond (tells_left only (length (blocked_pairs_of r))) (told_left format r.chart (left_pairs r k)) []

-- the head and the blocked pairs, with runs for so many that are first
abbrev pub ready_text : StickFormat → ReadyChart → Option (List Bool) → ℕ → StickFacts → List ℕ
ready_text format r only show k =
    head_in format r only k ++ told_sticks (once_texts format r.chart) k.ahead k.runs show (blocked_pairs_of r)

-- what follows these, of races that are left and of two rounds: in lines for editors and in findings
-- for people the former come last
abbrev pub rest_in : StickFormat → List ℕ → List ℕ → List ℕ
rest_in format left again = cond (comes_left_last format) (again ++ left) (left ++ again)

-- how many more runs are shown behind it
abbrev pub more_after : ReadyChart → ℕ → StickFacts → ℕ
more_after r show k = left_behind k.ahead show (blocked_pairs_of r)

-- what is written of the blocked pairs between two rounds: how many there are, and each of them in
-- their order, where so many more runs are shown
abbrev pub again_text : StickFormat → Drawing → ReadyChart → List (Option (ℕ × ℕ)) → (ℕ → List ℕ) → ℕ → List ℕ
again_text format d two ahead runs more =
    again_count_in format (length (between_of two d))
    ++ told_sticks (again_texts format d) ahead runs more (between_of two d)

-- What is printed of the blocked pairs between two rounds of a chart, where so many more runs are
-- shown, and how many there are. The blocked pair that is ahead of one is that of all blocked
-- pairs of two rounds.
pub record PrintsBetween (d : Drawing) (queues : Queues) (only : Option (List Bool)) (more : ℕ) (format : StickFormat) (between : Option ℕ) (printed : List ℕ) : Type 0 where
  pub order : Table
  pub visual : HasVisualOrder (ready_chart (two_rounds d) queues (lines_of only) order)
  pub blocked_pairs : AreBetween (ready_chart (two_rounds d) queues (lines_of only) order) d (between_of (ready_chart (two_rounds d) queues (lines_of only) order) d)
  pub ahead : List (Option (ℕ × ℕ))
  pub are_ahead : AreAhead (ready_chart (two_rounds d) queues (lines_of only) order) ahead (length (two_rounds d).events)
  pub runs : ℕ → List ℕ
  pub are_runs : AreBlockedPairRuns (wiring_of (ready_chart (two_rounds d) queues (lines_of only) order)) (ready_in (ready_chart (two_rounds d) queues (lines_of only) order)) runs
  pub answered : between ≡ Some (length (between_of (ready_chart (two_rounds d) queues (lines_of only) order) d))
  pub text : printed ≡ again_text format d (ready_chart (two_rounds d) queues (lines_of only) order) ahead runs more

-- the same, where two rounds are asked for; else nothing is printed
abbrev pub PrintsAgain : Bool → Drawing → Queues → Option (List Bool) → ℕ → StickFormat → Option ℕ → List ℕ → Type 0
PrintsAgain false d queues only more format between printed = (between ≡ None) × (printed ≡ [])
PrintsAgain true d queues only more format between printed = PrintsBetween d queues only more format between printed

-- there is none of these, if they are counted
abbrev pub is_none_of : Option ℕ → Bool
is_none_of None = true
is_none_of (Some n) = nat_eq n 0

-- what was found: how many blocked pairs there are, how many between two rounds, if these are counted,
-- whether some ready run is whole, and how many races are left, if these are
abbrev pub readiness_of : ReadyChart → Option (List Bool) → StickFacts → Option ℕ → SpokenReadiness
readiness_of r only k between = record {
  blocked = length (blocked_pairs_of r);
  between = between;
  finishes = k.may;
  left = left_number r only k;
}

-- What is printed of a chart whose instances are ready, or those of a list, in a format, where runs
-- are shown for so many first blocked pairs if the format has them, and whether the system finishes;
-- and of two rounds, where they are asked for, and whether there is no blocked pair between them.
pub record PrintsReady (d : Drawing) (queues : Queues) (only : Option (List Bool)) (again : Bool) (show : ℕ) (format : StickFormat) (passed : Bool) (printed : List ℕ) : Type 0 where
  pub accepted : IsAccepted d
  pub order : Table
  pub visual : HasVisualOrder (ready_chart d queues (lines_of only) order)
  pub blocked_pairs : AreBlockedPairs (ready_chart d queues (lines_of only) order) (blocked_pairs_of (ready_chart d queues (lines_of only) order))
  pub known : StickFacts
  pub is : AreStickFacts (ready_chart d queues (lines_of only) order) known
  pub between : Option ℕ
  pub behind : List ℕ
  pub rounds : PrintsAgain again d queues only (more_after (ready_chart d queues (lines_of only) order) (runs_in format show) known) format between behind
  pub answered : passed ≡ (finishes (ready_chart d queues (lines_of only) order) only known && is_none_of between)
  pub text : printed
      ≡ ready_text format (ready_chart d queues (lines_of only) order) only (runs_in format show) known
      ++ (rest_in format (left_text format (ready_chart d queues (lines_of only) order) only known) behind
      ++ closing_in format (readiness_of (ready_chart d queues (lines_of only) order) only known between))
