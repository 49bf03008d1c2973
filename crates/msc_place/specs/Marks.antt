-- Positions that are kept of a text.
use Rattle.std.specs.Prelude.{◌≡◌, ℕ, ◌+◌, ◌*◌, ◌/◌, ◌<◌, List, length, get_or}
use Rattle.msc_place.specs.declared.index.TheConstants.{STEP}
use Rattle.msc_place.specs.declared.position.Position.{Position}
use Rattle.msc_place.specs.Positions.{IsPosition}

-- what is read past the last position
abbrev pub no_position : Position
no_position = record { line = 0; column = 0 }

-- the position of each of the first places that are multiples of the step
abbrev pub AreMarksTo : List ℕ → List Position → ℕ → Type 0
AreMarksTo text marks count =
    (k : ℕ) → k < count → IsPosition text (k * STEP) (get_or marks k no_position).line (get_or marks k no_position).column

-- the position of each place of the text that is a multiple of the step
pub record AreMarks (text : List ℕ) (marks : List Position) : Type 0 where
  pub each : length marks ≡ length text / STEP + 1
  pub known : AreMarksTo text marks (length marks)
