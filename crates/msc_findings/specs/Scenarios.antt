-- The races of a scenario of a diagram as people read them.
use Rattle.std.specs.Prelude.{ℕ, ◌-◌, Bool, cond, not, ◌&&◌, ◌==◌, List, [], Option, None, Some, slice_get, unwrap_or}
use Rattle.std.specs.List.{list_any}
use Rattle.msc_full.specs.declared.event.ShownText.{ShownText}
use Rattle.msc_judge.specs.declared.renderer.Finding.{Finding}
use Rattle.msc_wording.specs.Scenarios.{scenarios_text}
use Rattle.msc_findings.specs.Findings.{finding_with}
use Rattle.msc_findings.specs.declared.scenario.LoopRound.{LoopRound}
use Rattle.msc_findings.specs.declared.scenario.ShownScenario.{ShownScenario}

-- two rounds of one loop
abbrev pub is_other : LoopRound → LoopRound → Bool
is_other a b = a.begin == b.begin && not (a.round == b.round)

-- one of these is another round of the same loop
abbrev pub in_other_round : List LoopRound → LoopRound → Bool
in_other_round rounds a = list_any (is_other a) rounds

-- some loop is around two events, in two rounds of it
abbrev pub in_two_rounds : List LoopRound → List LoopRound → Bool
in_two_rounds first second = list_any (in_other_round second) first

-- the rounds of the loops around an event
abbrev pub rounds_at : List (List LoopRound) → ℕ → List LoopRound
rounds_at rounds e = unwrap_or (slice_get rounds e) []

-- the second event of a finding is of another round of a loop around both
abbrev pub is_next : ShownScenario → Finding → Bool
is_next s f = in_two_rounds (rounds_at s.rounds.now f.first) (rounds_at s.rounds.now f.second)

-- the count of the finding of this number, if the first has the other
abbrev pub count_at : List ℕ → ℕ → ℕ → ℕ
count_at counts first number = unwrap_or (slice_get counts (number - first)) 0

-- the note on the scenarios in which a finding counts, if there are several
abbrev pub where_note : ShownScenario → Finding → Option (List ℕ)
where_note s f = cond (s.scenarios == 1) None
    (Some (scenarios_text (count_at s.counts.now s.first f.number) s.scenarios s.number s.choices.now))

-- the diagnostic of a finding, with the rows of a run if one is given
abbrev pub scenario_finding : ShownText → ShownScenario → Finding → Option (List ℕ) → List ℕ
scenario_finding text s f line = finding_with text f (is_next s f) (where_note s f) line
