-- What is written of races that are listed, as they come.
use Rattle.std.specs.Prelude.{ℕ, ◌+◌, Bool, cond, List, [], ◌∷◌, ◌++◌, Some, length, nat_lt, unwrap_or}
use Rattle.msc_race.specs.Wired.{EnforcedChart}
use Rattle.msc_reason.specs.Counting.{listed}
use Rattle.msc_reason.specs.Marked.{cause_in}
use Rattle.msc_judge.specs.Findings.{closing_totals, finding_of, heading_of, left_of, shown_text, totals_in, Texts}
use Rattle.msc_judge.specs.Rounds.{round_heading}
use Rattle.msc_judge.specs.declared.marking.Marking.{Marking}
use Rattle.msc_judge.specs.declared.options.CheckOptions.{CheckOptions}
use Rattle.msc_judge.specs.declared.renderer.Heading.{Heading}

-- what is written of a race with so many before it
abbrev pub race_text : Texts → EnforcedChart → CheckOptions → (ℕ × ℕ → List ℕ) → ℕ → ℕ × ℕ → List ℕ
race_text r e q runs n p = shown_text r.finding r.run q.show runs (finding_of q.why (cause_in e) n p)

-- what is written of these races behind so many, where so many are told
abbrev pub told_from : (ℕ → ℕ × ℕ → List ℕ) → ℕ → ℕ → List (ℕ × ℕ) → List ℕ
told_from text most n [] = []
told_from text most n (p ∷ pairs) = cond (nat_lt n most) (text n p) [] ++ told_from text most (n + 1) pairs

-- what is written of the races that are listed: how many there are, each of them, and what marks
-- say; and whether that closes the answer
abbrev pub listed_text : Texts → EnforcedChart → CheckOptions → Marking → Bool → (ℕ × ℕ → List ℕ) → List ℕ
listed_text r e q m closes runs =
    r.heading (heading_of e q.closest (left_of q m) (cause_in e))
    ++ (told_from (race_text r e q runs) q.most 0 (listed e (left_of q m) q.closest (cause_in e))
    ++ r.end m.stale.now (closing_totals closes q.most (length m.stale.now) (heading_of e q.closest (left_of q m) (cause_in e))))

-- how many races are listed, by what is said of all
abbrev pub number_in : Heading → ℕ
number_in h = unwrap_or h.closest h.counting

-- what is written of these races of two rounds after those of one round, which have this heading and
-- beside which `stale` marks accept no race: the number of the races of two rounds, and each of them
abbrev pub rounds_from : Texts → EnforcedChart → CheckOptions → ℕ → (ℕ × ℕ → List ℕ) → Heading → List (ℕ × ℕ) → List ℕ
rounds_from r two q stale runs h pairs =
    r.heading (round_heading two.queues (length pairs))
    ++ (told_from (race_text r two q runs) q.most (number_in h) pairs
    ++ r.end [] (Some (totals_in q.most stale (Some (length pairs)) h)))
