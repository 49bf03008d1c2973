-- The rows of a run, made once and found again for each race that the run shows.
use Rattle.std.specs.Prelude.{ℕ, cond, List, [], ◌∷◌, ◌++◌, Option, None, Some, codes}
use Rattle.std.specs.List.{flat_map}
use Rattle.std.specs.Option.{option_map}
use Rattle.std.specs.Str.{is_utf8}
use Rattle.std.specs.Str.Lines.{lines}
use Rattle.msc_full.specs.Blocks.{texts_of}
use Rattle.msc_full.specs.declared.event.ShownEvent.{ShownEvent}
use Rattle.msc_full.specs.declared.event.ShownText.{ShownText}
use Rattle.msc_wording.specs.Runs.{run_rows}
use Rattle.msc_wording.specs.declared.run.SpokenStep.{SpokenStep}

-- the step of an event of this round, if there is such an event
abbrev pub step_of : Option ℕ → Option ShownEvent → List SpokenStep
step_of round None = []
step_of round (Some event) = record { event = event.spoken; round = round } ∷ []

-- rows, each with its line feed
abbrev pub joined : List (List ℕ) → List ℕ
joined rows = flat_map (λ row. row ++ codes "\n") rows

-- the rows of these steps
abbrev pub rows_text : ShownText → List SpokenStep → List ℕ
rows_text text steps = joined (run_rows (texts_of text.names.now) steps)

-- the rows among bytes: their lines
abbrev pub rows_in : List ℕ → List (List ℕ)
rows_in bytes = cond (is_utf8 bytes) (lines bytes) []

abbrev pub rows_of_line : Option (List ℕ) → Option (List (List ℕ))
rows_of_line line = option_map rows_in line
