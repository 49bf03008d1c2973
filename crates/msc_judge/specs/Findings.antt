-- What the answer of a question is: which races are told, and what is written of them.
use Rattle.std.specs.Prelude.{◌≡◌, ℕ, ◌+◌, ◌-◌, ◌<◌, Bool, cond, true, ◌&&◌, List, [], ◌∷◌, ◌++◌, Option, None, Some, is_some, Result, IfOk, length, nat_eq, nat_lt, take}
use Rattle.std.specs.List.{flat_map}
use Rattle.msc_chart.specs.Witness.{IsWitness}
use Rattle.msc_chart.specs.Drawings.{Drawing}
use Rattle.msc_chart.specs.Orders.{WiredChart}
use Rattle.msc_race.specs.Shown.{IsShownRun}
use Rattle.msc_race.specs.Views.{wiring_of, races_of}
use Rattle.msc_race.specs.Wired.{EnforcedChart}
use Rattle.msc_reason.specs.Counting.{counting, listed, AreCauses}
use Rattle.msc_reason.specs.Kinds.{is_empty}
use Rattle.msc_reason.specs.LeftOut.{of_kinds}
use Rattle.msc_reason.specs.declared.kinds.KindSet.{KindSet}
use Rattle.msc_reason.specs.declared.cause.Cause.{Cause}
use Rattle.msc_reason.specs.declared.left_out.LeftOut.{LeftOut}
use Rattle.msc_print.specs.Pages.{Writes}
use Rattle.msc_judge.specs.declared.marking.Marking.{Marking}
use Rattle.msc_print.specs.declared.page.WriteFault.{WriteFault}
use Rattle.msc_judge.specs.declared.options.CheckOptions.{CheckOptions}
use Rattle.msc_judge.specs.declared.renderer.Finding.{Finding}
use Rattle.msc_judge.specs.declared.renderer.Heading.{Heading}
use Rattle.msc_judge.specs.declared.renderer.Totals.{Totals}

-- each event's witness
abbrev pub AreWitness : WiredChart → (ℕ → List ℕ) → Type 0
AreWitness chart runs = (x : ℕ) → x < length chart.events → IsWitness chart x (runs x)

-- the run that shows of each two events that the first need not come first
abbrev pub AreShown : Bool → WiredChart → (ℕ × ℕ → List ℕ) → Type 0
AreShown short chart runs =
    (p : ℕ × ℕ) → p.0 < length chart.events → p.1 < length chart.events → IsShownRun short chart p.0 p.1 (runs p)

-- what is known of a chart's races and events: what each race lacks, each event's witness, and the
-- short witness of each two events
pub record Tables : Type 0 where
  pub causes : ℕ → ℕ → Cause
  pub runs : ℕ → List ℕ
  pub short : ℕ × ℕ → List ℕ

-- it is what they are
pub record AreTables (e : EnforcedChart) (t : Tables) : Type 0 where
  pub causes : AreCauses e t.causes
  pub runs : AreWitness (wiring_of e) t.runs
  pub short : AreShown true (wiring_of e) t.short

-- the run that shows a pair: a short one where that is asked for
abbrev pub run_of : Bool → Tables → ℕ × ℕ → List ℕ
run_of short t p = cond short (t.short p) (t.runs p.0)

-- what does not count, for a question: the kinds that it leaves out, and what marks accept
abbrev pub left_of : CheckOptions → Marking → LeftOut
left_of q m = record { kinds = q.allowed; accepted = m.accepted }

-- a race as a finding, with what it lacks where that is asked for
abbrev pub finding_of : Bool → (ℕ → ℕ → Cause) → ℕ → ℕ × ℕ → Finding
finding_of why causes n p =
    record { number = n; first = p.0; second = p.1; cause = cond why (Some (causes p.0 p.1)) None }

-- these races as findings, numbered from here on
abbrev pub findings_from : Bool → (ℕ → ℕ → Cause) → ℕ → List (ℕ × ℕ) → List Finding
findings_from why causes n [] = []
findings_from why causes n (p ∷ pairs) = finding_of why causes n p ∷ findings_from why causes (n + 1) pairs

-- what is told: the first of the races that are listed
abbrev pub findings : EnforcedChart → CheckOptions → LeftOut → (ℕ → ℕ → Cause) → List Finding
findings e q left causes = take q.most (findings_from q.why causes 0 (listed e left q.closest causes))

-- how many races are of none of these kinds
abbrev pub number_of_others : EnforcedChart → KindSet → (ℕ → ℕ → Cause) → ℕ
number_of_others e kinds causes = length (counting e (of_kinds kinds) causes)

-- what is said of all of them: how many there are, how many of a kind that is left out, how many of
-- the others are accepted, how many count, and how many of these are closest
abbrev pub heading_of : EnforcedChart → Bool → LeftOut → (ℕ → ℕ → Cause) → Heading
heading_of e closest left causes = record {
  queues = e.queues;
  races = length (races_of e);
  left_out = cond (is_empty left.kinds) None (Some (length (races_of e) - number_of_others e left.kinds causes));
  accepted = cond (is_some left.accepted) (Some (number_of_others e left.kinds causes - length (counting e left causes))) None;
  counting = length (counting e left causes);
  closest = cond closest (Some (length (listed e left true causes))) None;
}

-- what is written of a finding: with what is made of the run that shows it, where it is one of the
-- first
abbrev pub shown_text : (Finding → Option (List ℕ) → List ℕ) → (List ℕ → List ℕ) → ℕ → (ℕ × ℕ → List ℕ) → Finding → List ℕ
shown_text finding run show runs f =
    finding f (cond (nat_lt f.number show) (Some (run (runs (f.first, f.second)))) None)

-- the texts of a renderer on a chart
pub record Texts : Type 0 where
  pub heading : Heading → List ℕ
  pub run : List ℕ → List ℕ
  pub finding : Finding → Option (List ℕ) → List ℕ
  pub end : List ℕ → Option Totals → List ℕ

-- those that the members of a renderer give
abbrev pub texts : {S : Type 0} → (S → Drawing → Heading → List ℕ) → (S → Drawing → List ℕ → List ℕ)
    → (S → Drawing → Finding → Option (List ℕ) → List ℕ) → (S → Drawing → List ℕ → Option Totals → List ℕ) → S → Drawing → Texts
texts heading run finding end s d =
    record { heading = heading s d; run = run s d; finding = finding s d; end = end s d }

-- what a whole answer found, by these numbers
abbrev pub totals_in : ℕ → ℕ → Option ℕ → Heading → Totals
totals_in most stale between h = record { heading = h; most = most; stale = stale; between = between }

-- the same, where the races of one round close the answer
abbrev pub closing_totals : Bool → ℕ → ℕ → Heading → Option Totals
closing_totals closes most stale h = cond closes (Some (totals_in most stale None h)) None

-- all that is written: the heading, each finding in order, and the end, which may close the answer
abbrev pub answer_text : Texts → EnforcedChart → CheckOptions → Marking → Tables → Bool → List ℕ
answer_text r e q m t closes =
    r.heading (heading_of e q.closest (left_of q m) t.causes)
    ++ (flat_map (shown_text r.finding r.run q.show (run_of q.short t)) (findings e q (left_of q m) t.causes)
    ++ r.end m.stale.now (closing_totals closes q.most (length m.stale.now) (heading_of e q.closest (left_of q m) t.causes)))

-- whether that is nothing that counts: no race of one round, none between two, and no mark that
-- accepts none
abbrev pub none_between : Option ℕ → Bool
none_between None = true
none_between (Some n) = nat_eq n 0

abbrev pub passes_in : Totals → Bool
passes_in t = none_between t.between && (nat_eq t.heading.counting 0 && nat_eq t.stale 0)

-- whether no race counts, and no mark accepts none
abbrev pub passes : EnforcedChart → CheckOptions → Marking → (ℕ → ℕ → Cause) → Bool
passes e q m causes =
    nat_eq (length (counting e (left_of q m) causes)) 0 && nat_eq (length m.stale.now) 0

-- What is answered and written, in the texts of a renderer. Memory may run out, and the writer may
-- fail.
pub record Answers (e : EnforcedChart) (q : CheckOptions) (m : Marking) (texts : Texts) (answer : Result Totals WriteFault) (before after : Option (List ℕ)) : Type 0 where
  pub tables : Tables
  pub are : AreTables e tables
  pub written : Writes answer before after (answer_text texts e q m tables true)
  pub found : IfOk answer (λ t. t ≡ totals_in q.most (length m.stale.now) None (heading_of e q.closest (left_of q m) tables.causes))
