-- The columns of parts of a line. Each part is read as a text of its own.
use Rattle.std.specs.Prelude.{ℕ, ◌+◌, ◌-◌, Bool, ◌||◌, ◌==◌, List, drop, length, max, take}
use Rattle.std.specs.List.{suffix_len}
use Rattle.msc_spoken.specs.Cutting.{columns_of}
use Rattle.msc_spoken.specs.Reading.{decoded_front}
use Rattle.msc_spoken.specs.Showing.{shown_text}

-- bytes of a line from this one on, at most so many
abbrev pub part_of : List ℕ → ℕ → ℕ → List ℕ
part_of line first count = take count (drop first line)

-- The columns before a byte of a line: those of what is shown before it, and one for each byte after
-- the end of the line.
abbrev pub column_of : List ℕ → ℕ → ℕ
column_of line first = columns_of (shown_text (take first line)) + (first - length line)

-- how many bytes the character at the front has; a byte that is part of no character is one
abbrev pub character_size : List ℕ → ℕ
character_size bytes = (decoded_front bytes).1 + 1

-- the columns of what is shown of a part of a line, which has at least its first character whole;
-- and at least one
abbrev pub columns_in : List ℕ → ℕ → ℕ → ℕ
columns_in line first count =
    max (columns_of (shown_text (part_of line first (max count (character_size (drop first line)))))) 1

-- a blank or a tab
abbrev pub is_blank : ℕ → Bool
is_blank byte = byte == 32 || byte == 9

-- how many bytes of a part of a line are left without the blanks at its end; at least one
abbrev pub trimmed : List ℕ → ℕ → ℕ → ℕ
trimmed line first count =
    let part = part_of line first count in max (length part - suffix_len is_blank part) 1
