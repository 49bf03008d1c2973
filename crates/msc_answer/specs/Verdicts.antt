-- What is printed of a chart, or of all scenarios of a diagram, under an architecture.
use Rattle.std.specs.Prelude.{◌≡◌, ◌⊎◌, ℕ, Bool, true, false, ◌||◌, nat_lt, List, Option, Result, Ok, Err, unwrap_or}
use Rattle.std.specs.Io.KnownBytes.{Appends}
use Rattle.msc_chart.specs.declared.queue.Queues.{Queues}
use Rattle.msc_judge.specs.Findings.{passes_in}
use Rattle.msc_judge.specs.declared.renderer.Totals.{Totals}
use Rattle.msc_answer.specs.Answering.{PrintsRaces, RefusesOf}
use Rattle.msc_answer.specs.Ending.{ended_by}
use Rattle.msc_answer.specs.Refused.{is_spent}
use Rattle.msc_answer.specs.Scenarios.{PrintsCounted}
use Rattle.msc_answer.specs.declared.chart_answers.Checked.{Checked}
use Rattle.msc_answer.specs.declared.ending.Refusal.{Refusal}
use Rattle.msc_answer.specs.declared.scenarios.Surveyed.{Surveyed}
use Rattle.msc_answer.specs.declared.tasks.ChartCommand.TheVariants.{Check}
use Rattle.msc_answer.specs.declared.tasks.CheckArgs.{CheckArgs}
use Rattle.msc_answer.specs.declared.verdicts.Subject.{Subject}
use Rattle.msc_answer.specs.declared.verdicts.Subject.TheVariants as subjects
use Rattle.msc_answer.specs.declared.verdicts.Verdict.{Verdict}

-- some race counts, of one round or between two
abbrev pub has_races : Totals → Bool
has_races t = nat_lt 0 t.heading.counting || nat_lt 0 (unwrap_or t.between 0)

-- the verdict of a check of a chart that found this
abbrev pub of_chart : Checked → Verdict
of_chart one = record {
  status = ended_by (passes_in one.judged.totals);
  races = has_races one.judged.totals;
  listed = nat_lt 0 (unwrap_or one.judged.totals.heading.closest 0);
  accepted = unwrap_or one.judged.totals.heading.accepted 0;
  marked = one.marked;
  never = one.judged.never;
}

-- and of a check of a diagram
abbrev pub of_diagram : Surveyed → Verdict
of_diagram one = record {
  status = one.status;
  races = nat_lt 0 one.listed;
  listed = nat_lt 0 one.listed;
  accepted = one.accepted;
  marked = one.marked;
  never = false;
}

-- the same check under another architecture
abbrev pub under_queues : Queues → CheckArgs → CheckArgs
under_queues queues c = record c { queues = queues }

-- what is printed of a subject of the file of this name, and the verdict
abbrev pub PrintsVerdict : CheckArgs → Queues → List ℕ → Subject → Verdict → List ℕ → Type 0
PrintsVerdict c queues file (subjects.Chart source) verdict printed =
    (one : Checked) × (verdict ≡ of_chart one) × PrintsRaces (under_queues queues c) file source.now one printed
PrintsVerdict c queues file (subjects.Diagram told charts) verdict printed =
    (one : Surveyed) × (verdict ≡ of_diagram one) × PrintsCounted false (under_queues queues c) told charts.now one printed

-- why nothing is: a mark of a chart is faulty, or two rounds of it are no chart
abbrev pub RefusesVerdict : CheckArgs → Queues → Subject → Refusal → Type 0
RefusesVerdict c queues (subjects.Chart source) refusal = RefusesOf (Check (under_queues queues c)) source.now refusal
RefusesVerdict c queues (subjects.Diagram told charts) refusal = ⊥

-- Something was printed, where it is known what is right to print: such a text went behind the known
-- bytes of a writer; or it is refused, and the writer has had no call; or memory ran out or the writer
-- failed, and nothing is known.
abbrev pub Yields : {W A : Type 0} → (W → Option (List ℕ)) → (A → List ℕ → Type 0) → (Refusal → Type 0) → Result A Refusal → W → W → Type 0
Yields contents prints refuses (Ok a) old new =
    (printed : List ℕ) × prints a printed × Appends (contents old) (contents new) printed
Yields contents prints refuses (Err refusal) old new =
    (is_spent refusal ≡ true) ⊎ (refuses refusal × (new ≡ old))
