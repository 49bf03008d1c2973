-- Places as they are printed.
use Rattle.std.specs.Prelude.{ℕ, ◌++◌, List, map, decimal, codes, ◌||◌, nat_lt, nat_eq, if◌then◌else◌}
use Rattle.msc_place.specs.declared.position.Position.{Position}

-- what is shown for a byte of a file's name
abbrev pub shown_byte : ℕ → ℕ
shown_byte b = if nat_lt b 32 || nat_eq b 127 then 63 else b

-- FILE:LINE:COLUMN
abbrev pub place_text : List ℕ → ℕ → ℕ → List ℕ
place_text file line column =
    map shown_byte file ++ (codes ":" ++ (decimal line ++ (codes ":" ++ decimal column)))

-- the line of two places
abbrev pub places_line : List ℕ → Position → Position → List ℕ
places_line file first second =
    codes "at " ++ (place_text file first.line first.column ++ (codes " " ++ (place_text file second.line second.column ++ codes "\n")))
