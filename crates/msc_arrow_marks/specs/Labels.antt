-- Marks that are parts of labels: Mermaid takes a comment behind an arrow as a part of its label.
use Rattle.std.specs.Prelude.{ℕ, Bool, false, ◌&&◌, ◌||◌, List, [], ◌∷◌, drop}
use Rattle.msc_mermaid.specs.White.{trimmed}
use Rattle.msc_arrow_marks.specs.Heads.{is_empty}
use Rattle.msc_arrow_marks.specs.Parts.{pieces}
use Rattle.msc_arrow_marks.specs.Readings.{is_marked}

abbrev pub begins_mark : List ℕ → Bool
begins_mark piece = is_marked (trimmed piece)

-- a piece without bytes is before one that begins as a mark
abbrev pub is_signed : List (List ℕ) → Bool
is_signed [] = false
is_signed (piece ∷ []) = false
is_signed (piece ∷ next ∷ pieces) = is_empty piece && begins_mark next

-- such a piece is among the pieces
unfoldable pub has_signed : List (List ℕ) → Bool
has_signed [] = false
has_signed (piece ∷ pieces) = is_signed (piece ∷ pieces) || has_signed pieces

-- two percent signs, white space, and what begins as a mark
abbrev pub has_mark : List ℕ → Bool
has_mark label = has_signed (drop 1 (pieces 37 label))
