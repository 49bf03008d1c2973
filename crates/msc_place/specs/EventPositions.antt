-- Where the events of a text stand, as answers show it.
use Rattle.std.specs.Prelude.{◌≡◌, ℕ, ◌<◌, ◌++◌, List, length, codes, get_or}
use Rattle.msc_parser.specs.Drafts.{statements_of}
use Rattle.msc_parser.specs.Grammar.{Tree}
use Rattle.msc_place.specs.declared.position.Position.{Position}
use Rattle.msc_place.specs.Positions.{IsPosition}
use Rattle.msc_place.specs.Standing.{BeginsEvent}
use Rattle.msc_place.specs.Texts.{place_text, places_line}

-- the statement of event e begins at this position
pub record BeginsAt (text : List ℕ) (t : Tree) (e : ℕ) (p : Position) : Type 0 where
  pub at : ℕ
  pub begins : BeginsEvent text t e at
  pub position : IsPosition text at p.line p.column

-- the beginning of a text
abbrev pub beginning : Position
beginning = record { line = 1; column = 1 }

-- these are the positions at which the statements of all events of the text begin
pub record AreEventPositions (text : List ℕ) (t : Tree) (positions : List Position) : Type 0 where
  pub size : length positions ≡ length (statements_of t.sections)
  pub each : (e : ℕ) → e < length positions → BeginsAt text t e (get_or positions e beginning)

-- the name of a file, and the positions of the events of its text
pub record EventPositionsIn : Type 0 where
  pub file : List ℕ
  pub positions : List Position

-- these two
abbrev pub event_positions_in : List ℕ → List Position → EventPositionsIn
event_positions_in file positions = record { file = file; positions = positions }

-- where event e stands
abbrev pub event_position_of : EventPositionsIn → ℕ → Position
event_position_of s e = get_or s.positions e beginning

-- FILE:LINE:COLUMN of event e
abbrev pub event_position_text : EventPositionsIn → ℕ → List ℕ
event_position_text s e = place_text s.file (event_position_of s e).line (event_position_of s e).column

-- the line of the place of event e
abbrev pub event_position_line : EventPositionsIn → ℕ → List ℕ
event_position_line s e = codes "at " ++ (event_position_text s e ++ codes "\n")

-- the line of the places of two events
abbrev pub event_positions_line : EventPositionsIn → ℕ → ℕ → List ℕ
event_positions_line s e f = places_line s.file (event_position_of s e) (event_position_of s f)
