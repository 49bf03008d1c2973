-- What is asked of the races of a chart, in a format.
use Rattle.std.specs.Prelude.{◌≡◌, ℕ, Bool, true, false, ◌&&◌, not, List, [], ◌∷◌, ◌++◌, Option, None, Some, MatchOption, length, nat_eq}
use Rattle.std.specs.Borrow.{Bor}
use Rattle.msc_chart.specs.declared.queue.Queues.{Queues}
use Rattle.msc_chart.specs.Drawings.{Drawing, IsAccepted}
use Rattle.msc_chart.specs.Lists.{Occurs}
use Rattle.msc_chart.specs.Orders.{wired, WiredChart}
use Rattle.msc_chart.specs.Rounds.{two_rounds}
use Rattle.msc_findings.specs.Findings.{end_text, finding_text as diagnostic_text, never_part, run_text as run_rows}
use Rattle.msc_findings.specs.Rounds.{round_finding as finding_once, round_run as round_rows}
use Rattle.msc_follow.specs.Following.{CanHappen, IsLeastStepRing, NeverHappens}
use Rattle.msc_mark.specs.Accepting.{acceptance, accepts_race, stale_events}
use Rattle.msc_mark.specs.declared.mark.Mark.{Mark}
use Rattle.msc_order.specs.Tables.{Table}
use Rattle.msc_race.specs.Views.{races_of}
use Rattle.msc_race.specs.Wired.{enforced_chart, EnforcedChart, IsEnforced}
use Rattle.msc_reason.specs.Counting.{counting, listed, AreCauses}
use Rattle.msc_reason.specs.declared.kinds.KindSet.{KindSet}
use Rattle.msc_reason.specs.PairTables.{has_pair, PairTable}
use Rattle.msc_reason.specs.declared.cause.Cause.{Cause}
use Rattle.msc_reason.specs.declared.left_out.LeftOut.{LeftOut}
use Rattle.msc_judge.specs.Findings.{answer_text, heading_of, left_of, totals_in, AreTables, Tables, Texts}
use Rattle.msc_judge.specs.Options.{counted, for_editors, for_people}
use Rattle.msc_judge.specs.Rounds.{rounds_text, AreRoundRaces}
use Rattle.msc_judge.specs.declared.marking.Marking.{Marking}
use Rattle.msc_judge.specs.declared.options.CheckOptions.{CheckOptions}
use Rattle.msc_judge.specs.declared.renderer.Heading.{Heading}
use Rattle.msc_report.specs.Counts.{tally_line}
use Rattle.msc_report.specs.Lines.{finding_text, heading_text}
use Rattle.msc_report.specs.Editors.{editor_text}
use Rattle.msc_report.specs.Following.{never_error, ring_steps}
use Rattle.msc_report.specs.Rounds.{again_count, round_finding, round_run_text, round_warning}
use Rattle.msc_report.specs.Stale.{stale_lines, stale_warnings}
use Rattle.msc_report.specs.Styles.{run_text, event_positions_in}
use Rattle.msc_text.specs.declared.judging.ChartFormat.{ChartFormat}
use Rattle.msc_text.specs.declared.judging.Judged.{Judged}
use Rattle.msc_text.specs.declared.judging.ChartFormat.TheVariants.{Lines, Count, Editor, Full}

-- what keeps each run from the drawing: nothing, if some whole run keeps the drawn order, or a ring of
-- steps
abbrev pub IsBarred : WiredChart → List ℕ → Type 0
IsBarred chart [] = CanHappen chart
IsBarred chart (x ∷ ring) = IsLeastStepRing chart (x ∷ ring) × NeverHappens chart

-- the same, if the format prints it: lines for editors do, and findings for people
abbrev pub IsRingIn : ChartFormat → WiredChart → List ℕ → Type 0
IsRingIn (Editor event_positions) chart ring = IsBarred chart ring
IsRingIn (Full full) chart ring = IsBarred chart ring
IsRingIn (Lines style) chart ring = ring ≡ []
IsRingIn (Count file) chart ring = ring ≡ []

-- there is a ring
abbrev pub has_ring : List ℕ → Bool
has_ring ring = not (nat_eq (length ring) 0)

-- the texts of each format, of a chart and of the steps of such a ring
abbrev pub texts_in : ChartFormat → List (ℕ × ℕ) → Drawing → Texts
texts_in (Lines style) steps d = record {
  heading = heading_text d;
  run = run_text style.words d;
  finding = finding_text (event_positions_in style) d;
  end = λ stale totals. stale_lines (event_positions_in style) d stale;
}
texts_in (Count file) steps d =
    record { heading = tally_line file.now; run = λ run. []; finding = λ f line. []; end = λ stale totals. [] }
texts_in (Editor event_positions) steps d = record {
  heading = λ h. never_error event_positions.now d steps;
  run = λ run. [];
  finding = λ f line. editor_text event_positions.now d f;
  end = λ stale totals. stale_warnings event_positions.now d stale;
}
texts_in (Full full) steps d = record {
  heading = λ h. never_part full d steps;
  run = run_rows full;
  finding = diagnostic_text full.text false;
  end = end_text full (nat_eq (length steps) 0);
}

-- the texts of each format, of two rounds of a chart and of the steps of such a ring of the chart
abbrev pub round_texts_in : ChartFormat → List (ℕ × ℕ) → Drawing → Texts
round_texts_in (Lines style) steps d = record {
  heading = λ h. again_count h.counting;
  run = round_run_text style.words d;
  finding = round_finding (event_positions_in style) d;
  end = λ stale totals. [];
}
round_texts_in (Count file) steps d =
    record { heading = λ h. []; run = λ run. []; finding = λ f line. []; end = λ stale totals. [] }
round_texts_in (Editor event_positions) steps d =
    record { heading = λ h. []; run = λ run. []; finding = λ f line. round_warning event_positions.now d f; end = λ stale totals. [] }
round_texts_in (Full full) steps d = record {
  heading = λ h. [];
  run = round_rows full d;
  finding = λ f. diagnostic_text full.text true (finding_once d f);
  end = end_text full (nat_eq (length steps) 0);
}

-- what is asked, for a format: a count is of the closest races too, and of no race by itself; lines
-- for editors tell the kind of each race, and show no run; for people only the closest races are
-- told, with their causes and short runs
abbrev pub asked : ChartFormat → CheckOptions → CheckOptions
asked (Lines style) q = q
asked (Count file) q = counted q.allowed
asked (Editor event_positions) q = for_editors q
asked (Full full) q = for_people q

-- what marks say of the races of a chart: which of them are accepted, and which marks accept none
abbrev pub IsMarking : EnforcedChart → Option (List Mark) → Marking → Type 0
IsMarking e None m = (m.accepted ≡ None) × (m.stale.now ≡ [])
IsMarking e (Some marks) m = (pairs : Bor PairTable) × (m.accepted ≡ Some pairs)
    × ((p : ℕ × ℕ) → Occurs (races_of e) p → has_pair pairs.now p.0 p.1 ≡ accepts_race (acceptance marks e.chart e.queues) p)
    × (m.stale.now ≡ stale_events (acceptance marks e.chart e.queues) (races_of e))

-- What is printed of a chart, and what was found: by the enforced order, what its races lack, the
-- runs that show them, what keeps each run from the drawing, and what marks say, if they are used.
-- What is printed of two rounds may follow.
pub record JudgesOnce (d : Drawing) (queues : Queues) (q : CheckOptions) (marks : Option (List Mark)) (again : Bool) (format : ChartFormat) (found : Judged) (printed : List ℕ) : Type 0 where
  pub accepted : IsAccepted d
  pub order : Table
  pub by_order : IsEnforced (enforced_chart d queues order)
  pub marking : Marking
  pub marked : IsMarking (enforced_chart d queues order) marks marking
  pub tables : Tables
  pub are : AreTables (enforced_chart d queues order) tables
  pub ring : List ℕ
  pub barred : IsRingIn format (wired queues d) ring
  pub never : found.never ≡ has_ring ring
  pub answered : found.totals
      ≡ totals_in (asked format q).most (length marking.stale.now) None
      (heading_of (enforced_chart d queues order) (asked format q).closest (left_of (asked format q) marking) tables.causes)
  pub text : printed
      ≡ answer_text (texts_in format (ring_steps ring) d) (enforced_chart d queues order) (asked format q) marking tables (not again)

-- What is printed of two rounds of a chart after the `number` races that are listed of one, with this
-- heading, this ring and `stale` marks that accept no race; and how many races are between the
-- rounds: by the enforced order of the two, what their races lack, and the runs that show them.
-- The question is what is asked in the format.
pub record JudgesRounds (d : Drawing) (queues : Queues) (q : CheckOptions) (format : ChartFormat) (ring : List ℕ) (number stale : ℕ) (h : Heading) (between : ℕ) (printed : List ℕ) : Type 0 where
  pub order : Table
  pub by_order : IsEnforced (enforced_chart (two_rounds d) queues order)
  pub tables : Tables
  pub are : AreTables (enforced_chart (two_rounds d) queues order) tables
  pub pairs : List (ℕ × ℕ)
  pub told : AreRoundRaces d (enforced_chart (two_rounds d) queues order) q.allowed tables.causes pairs
  pub answered : between ≡ length pairs
  pub text : printed ≡ rounds_text (round_texts_in format (ring_steps ring) d) (enforced_chart (two_rounds d) queues order) q tables number
      (totals_in q.most stale (Some (length pairs)) h) pairs

-- what was found of one round, and so many races between two
abbrev pub and_between : Judged → ℕ → Judged
and_between found between = record found { totals = record found.totals { between = Some between } }

-- What is printed of a chart and behind it of two rounds of the chart, and what was found of both.
-- Findings are numbered on.
pub record JudgesUnrolled (d : Drawing) (queues : Queues) (q : CheckOptions) (marks : Option (List Mark)) (format : ChartFormat) (found : Judged) (printed : List ℕ) : Type 0 where
  pub first : Judged
  pub above : List ℕ
  pub once : JudgesOnce d queues q marks true format first above
  pub between : ℕ
  pub below : List ℕ
  pub rounds : JudgesRounds d queues (asked format q) format once.ring
      (length (listed (enforced_chart d queues once.order) (left_of (asked format q) once.marking) (asked format q).closest once.tables.causes))
      (length once.marking.stale.now)
      (heading_of (enforced_chart d queues once.order) (asked format q).closest (left_of (asked format q) once.marking) once.tables.causes)
      between below
  pub answered : found ≡ and_between first between
  pub text : printed ≡ above ++ below

-- what is printed of a chart, of two rounds too if they are included, and what was found
abbrev pub JudgesChart : Drawing → Queues → CheckOptions → Option (List Mark) → Bool → ChartFormat → Judged → List ℕ → Type 0
JudgesChart d queues q marks false format = JudgesOnce d queues q marks false format
JudgesChart d queues q marks true format = JudgesUnrolled d queues q marks format

-- the two rounds, if they are given, are those of this chart
abbrev pub AreItsRounds : Drawing → Option (Bor Drawing) → Type 0
AreItsRounds d rounds = MatchOption rounds (Unit {0}) (λ u. u.now ≡ d)

-- what does not count: races of these kinds, and those that marks accept
abbrev pub left_out : KindSet → Marking → LeftOut
left_out kinds m = record { kinds = kinds; accepted = m.accepted }

-- whether no race of a chart counts, and no mark accepts none
pub record PassesOnce (d : Drawing) (queues : Queues) (allowed : KindSet) (marks : Option (List Mark)) (passed : Bool) : Type 0 where
  pub order : Table
  pub by_order : IsEnforced (enforced_chart d queues order)
  pub marking : Marking
  pub marked : IsMarking (enforced_chart d queues order) marks marking
  pub causes : ℕ → ℕ → Cause
  pub are : AreCauses (enforced_chart d queues order) causes
  pub answered : passed
      ≡ (nat_eq (length (counting (enforced_chart d queues order) (left_out allowed marking) causes)) 0 && nat_eq (length marking.stale.now) 0)

-- whether no race is between two rounds of a chart
pub record PassesRounds (d : Drawing) (queues : Queues) (allowed : KindSet) (passed : Bool) : Type 0 where
  pub order : Table
  pub by_order : IsEnforced (enforced_chart (two_rounds d) queues order)
  pub causes : ℕ → ℕ → Cause
  pub are : AreCauses (enforced_chart (two_rounds d) queues order) causes
  pub pairs : List (ℕ × ℕ)
  pub told : AreRoundRaces d (enforced_chart (two_rounds d) queues order) allowed causes pairs
  pub answered : passed ≡ nat_eq (length pairs) 0

-- behind a chart that passes it is asked of two rounds
abbrev pub PassesBehind : Drawing → Queues → KindSet → Bool → Bool → Type 0
PassesBehind d queues allowed false passed = passed ≡ false
PassesBehind d queues allowed true passed = PassesRounds d queues allowed passed

-- whether a chart passes, and two rounds too where these are asked for
abbrev pub Passes : Drawing → Queues → KindSet → Option (List Mark) → Bool → Bool → Type 0
Passes d queues allowed marks false passed = PassesOnce d queues allowed marks passed
Passes d queues allowed marks true passed =
    (first : Bool) × PassesOnce d queues allowed marks first × PassesBehind d queues allowed first passed
