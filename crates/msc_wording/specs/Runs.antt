-- Runs in words: a row for each event.
use Rattle.std.specs.Prelude.{ℕ, ◌-◌, List, [], ◌++◌, Option, None, Some, codes, decimal, length, map, replicate}
use Rattle.std.specs.List.{enumerate_from}
use Rattle.msc_wording.specs.declared.event.SpokenEvent.{SpokenEvent}
use Rattle.msc_wording.specs.declared.run.SpokenStep.{SpokenStep}
use Rattle.msc_wording.specs.Events.{does_at_text, name_at}

-- the number of a row, right-aligned in so many columns
unfoldable pub number_text : ℕ → ℕ → List ℕ
number_text width number = replicate (width - length (decimal number)) 32 ++ (decimal number ++ codes ". ")

-- the round, if there is one
unfoldable pub round_text : Option ℕ → List ℕ
round_text None = []
round_text (Some round) = codes "round " ++ (decimal round ++ codes ": ")

-- what happens, and on which line it is drawn
unfoldable pub step_text : List (List ℕ) → SpokenEvent → List ℕ
step_text names e = name_at names e.owner ++ (codes " " ++ does_at_text names e)

-- the row of a step
unfoldable pub run_row : List (List ℕ) → ℕ → ℕ → SpokenStep → List ℕ
run_row names width number step = number_text width number ++ (round_text step.round ++ step_text names step.event)

-- the rows of a run; their numbers begin with 1, and are as wide as the last
abbrev pub run_rows : List (List ℕ) → List SpokenStep → List (List ℕ)
run_rows names steps = map (λ at. run_row names (length (decimal (length steps))) at.0 at.1) (enumerate_from 1 steps)
