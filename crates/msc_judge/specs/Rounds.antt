-- The closest races between the first and the second of two rounds of a chart, and what is written
-- of them behind the races of one round. Rounds are numbered from 0. Both are this project's own.
use Rattle.std.specs.Prelude.{◌≡◌, ◌↔◌, ℕ, ◌-◌, false, List, [], ◌++◌, Option, None, Some, Result, IfOk, length, take}
use Rattle.std.specs.List.{flat_map}
use Rattle.msc_chart.specs.declared.queue.Queues.{Queues}
use Rattle.msc_chart.specs.Drawings.{Drawing}
use Rattle.msc_chart.specs.Lists.{Occurs}
use Rattle.msc_chart.specs.Rounds.{round_of}
use Rattle.msc_race.specs.Races.{AreAscending}
use Rattle.msc_race.specs.Views.{wiring_of}
use Rattle.msc_race.specs.Wired.{EnforcedChart}
use Rattle.msc_reason.specs.Closest.{IsClosest}
use Rattle.msc_reason.specs.Counting.{listed}
use Rattle.msc_reason.specs.Kinds.{has_kind}
use Rattle.msc_reason.specs.declared.kinds.KindSet.{KindSet}
use Rattle.msc_reason.specs.declared.cause.Cause.{Cause}
use Rattle.msc_judge.specs.Findings.{answer_text, findings_from, heading_of, left_of, run_of, shown_text, totals_in, AreTables, Tables, Texts}
use Rattle.msc_print.specs.Pages.{Writes}
use Rattle.msc_judge.specs.declared.marking.Marking.{Marking}
use Rattle.msc_print.specs.declared.page.WriteFault.{WriteFault}
use Rattle.msc_judge.specs.declared.options.CheckOptions.{CheckOptions}
use Rattle.msc_judge.specs.declared.renderer.Heading.{Heading}
use Rattle.msc_judge.specs.declared.renderer.Totals.{Totals}

-- The pair (x, y) of events of two rounds of a chart is a race between the rounds: x is of the
-- first, y of the second, and it is closest among all races of the two, of whatever kind.
pub record IsBetweenRounds (d : Drawing) (two : EnforcedChart) (x y : ℕ) : Type 0 where
  pub first : round_of 2 d.events x ≡ 0
  pub second : round_of 2 d.events y ≡ 1
  pub closest : IsClosest (wiring_of two) x y

-- it is told: it is of no kind that is left out
pub record IsTold (d : Drawing) (two : EnforcedChart) (kinds : KindSet) (causes : ℕ → ℕ → Cause) (x y : ℕ) : Type 0 where
  pub between : IsBetweenRounds d two x y
  pub kind : has_kind kinds (causes x y).kind ≡ false

-- the list of all that are told, ascending, each once
pub record AreRoundRaces (d : Drawing) (two : EnforcedChart) (kinds : KindSet) (causes : ℕ → ℕ → Cause) (pairs : List (ℕ × ℕ)) : Type 0 where
  pub each : (x y : ℕ) → IsTold d two kinds causes x y ↔ Occurs pairs (x, y)
  pub ascending : AreAscending pairs

-- what is said of so many before the first one
abbrev pub round_heading : Queues → ℕ → Heading
round_heading queues count =
    record { queues = queues; races = count; left_out = None; accepted = None; counting = count; closest = None }

-- all that is written of these pairs, where so many races are listed before them, and the whole
-- answer found this: how many there are, and each as a finding, numbered on, where it is one of the
-- first that are told
abbrev pub rounds_text : Texts → EnforcedChart → CheckOptions → Tables → ℕ → Totals → List (ℕ × ℕ) → List ℕ
rounds_text r two q t n totals pairs =
    r.heading (round_heading two.queues (length pairs))
    ++ (flat_map (shown_text r.finding r.run q.show (run_of q.short t)) (take (q.most - n) (findings_from q.why t.causes n pairs))
    ++ r.end [] (Some totals))

-- What is answered and written of a chart, in the texts of one renderer, and behind it of two
-- rounds of the chart, in those of another. Memory may run out, and the writer may fail.
pub record AnswersRounds (one two : EnforcedChart) (q : CheckOptions) (m : Marking) (texts rounds : Texts) (answer : Result Totals WriteFault) (before after : Option (List ℕ)) : Type 0 where
  pub tables : Tables
  pub are : AreTables one tables
  pub of_two : Tables
  pub are_two : AreTables two of_two
  pub pairs : List (ℕ × ℕ)
  pub told : AreRoundRaces one.chart two q.allowed of_two.causes pairs
  pub written : Writes answer before after (answer_text texts one q m tables false
      ++ rounds_text rounds two q of_two (length (listed one (left_of q m) q.closest tables.causes))
      (totals_in q.most (length m.stale.now) (Some (length pairs)) (heading_of one q.closest (left_of q m) tables.causes)) pairs)
  pub found : IfOk answer (λ t. t
      ≡ totals_in q.most (length m.stale.now) (Some (length pairs)) (heading_of one q.closest (left_of q m) tables.causes))
