-- What is asked of a chart is what a listing has, and there are tables of what is told.
use Rattle.std.proofs.Common.{ℕ, ◌<◌, Bool, true, false, List, [], length, inl, inr, arith}
use Rattle.std.proofs.lemmas.Bool.{cases_lt}
use Rattle.msc_chart.specs.Witness.{IsWitness}
use Rattle.msc_chart.specs.Drawings.{IsAccepted}
use Rattle.msc_race.specs.Laws.{AWitnessExists}
use Rattle.msc_race.specs.Short.{IsShortWitness}
use Rattle.msc_race.specs.ShortLaws.{AShortWitnessExists}
use Rattle.msc_race.specs.Views.{wiring_of, races_from, AreRacesOf}
use Rattle.msc_race.specs.Wired.{EnforcedChart, IsEnforced}
use Rattle.msc_race.proofs.Listing.Raced.{each_is_race}
use Rattle.msc_reason.proofs.Filtered.{filter_parts}
use Rattle.msc_reason.proofs.CausesIn.{all_causes}
use Rattle.msc_reason.specs.Counting.{is_listed}
use Rattle.msc_reason.specs.Marked.{cause_in, listed_from}
use Rattle.msc_reason.specs.declared.left_out.LeftOut.{LeftOut}
use Rattle.msc_judge.specs.Findings.{run_of, AreShown, AreTables, Tables}

-- an event's witness, where it is an event
witness_run : (e : EnforcedChart) → IsAccepted e.chart → AWitnessExists → (x : ℕ)
    → (run : List ℕ) × (x < length e.chart.events → IsWitness (wiring_of e) x run)
witness_run e accepted exists x = elim (cases_lt x (length e.chart.events)) [
  | inl within ↦ let run = exists e.queues e.chart accepted x within in (run.0, λ _. run.1)
  | inr past ↦ ([], λ within. absurd (omega (arith, within, past)))
]

-- two events' short witness, where they are events
short_witness : (e : EnforcedChart) → IsAccepted e.chart → AShortWitnessExists → (p : ℕ × ℕ)
    → (run : List ℕ) × (p.0 < length e.chart.events → p.1 < length e.chart.events → IsShortWitness (wiring_of e) p.0 p.1 run)
short_witness e accepted exists p = elim (cases_lt p.0 (length e.chart.events)) [
  | inl first ↦ elim (cases_lt p.1 (length e.chart.events)) [
    | inl second ↦ let run = exists e.queues e.chart accepted p.0 p.1 first second in (run.0, λ _ _. run.1)
    | inr past ↦ ([], λ _ within. absurd (omega (arith, within, past)))
  ]
  | inr past ↦ ([], λ within _. absurd (omega (arith, within, past)))
]

-- tables of the causes by the order, and of these runs
abbrev pub tables_of : EnforcedChart → (ℕ → List ℕ) → (ℕ × ℕ → List ℕ) → Tables
tables_of e runs short = record { causes = cause_in e; runs = runs; short = short }

-- so there are tables of the causes by the order, of the witnesses and of the short ones
pub all_tables : (e : EnforcedChart) → IsEnforced e → IsAccepted e.chart → AWitnessExists → AShortWitnessExists
    → (runs : ℕ → List ℕ) × (short : ℕ × ℕ → List ℕ) × AreTables e (tables_of e runs short)
all_tables e is accepted exists shorts = (
  λ x. (witness_run e accepted exists x).0,
  λ p. (short_witness e accepted shorts p).0,
  record {
    causes = all_causes e is accepted;
    runs = λ x within. (witness_run e accepted exists x).1 within;
    short = λ p first second. (short_witness e accepted shorts p).1 first second;
  },
)

-- the runs that show pairs are those of the tables
pub are_shown : (short : Bool) (e : EnforcedChart) (t : Tables) → AreTables e t → AreShown short (wiring_of e) (run_of short t)
are_shown false e t are = λ p first second. are.runs p.0 first
are_shown true e t are = are.short

-- what is listed of an event are races of it
pub are_races : (e : EnforcedChart) → IsEnforced e → (allowed : LeftOut) (closest : Bool) (x : ℕ) → AreRacesOf e (listed_from e allowed closest x)
are_races e is allowed closest x y z there =
    each_is_race e is x y z (filter_parts (is_listed e allowed closest (cause_in e)) (races_from e x) (y, z) there).0
