-- The text of a diagram as its places count it, and whether a text has a sequence diagram.
use Rattle.std.specs.Prelude.{ℕ, ◌+◌, ◌-◌, ◌++◌, Bool, false, cond, not, ◌||◌, ◌==◌, nat_le, nat_lt, List, [], ◌∷◌, length, replicate, take, Option, None, Some, Result, Ok, Err}
use Rattle.std.specs.List.{join_with_byte, slice_get}
use Rattle.msc_markdown.specs.Markdowns.{Found, block_parts, markdown}
use Rattle.msc_mermaid.specs.declared.fault.ImportFault.{ImportFault}
use Rattle.msc_mermaid.specs.Lines.{lines_of}
use Rattle.msc_mermaid.specs.Parts.{Stretch, blanked}

-- lines with one LF between each two
abbrev pub joined : List (List ℕ) → List ℕ
joined lines = join_with_byte 10 lines

-- a text with one LF for each end of a line, and without a byte order mark
abbrev pub plain : List ℕ → List ℕ
plain text = joined (lines_of text)

-- a place of a text, in the text with one LF for each end of a line
abbrev pub plain_place : List ℕ → ℕ → ℕ
plain_place text at = length (plain (take at text))

-- what ends the line before the line of an index, from 0
abbrev pub line_end : ℕ → List ℕ
line_end index = cond (nat_lt 0 index) (10 ∷ []) []

-- the part of the line of a number, of parts of lines that follow each other
abbrev pub part_on : ℕ → List Stretch → Option Stretch
part_on number [] = None
part_on number (s ∷ ss) =
    cond (nat_le s.line number) (slice_get (s ∷ ss) (number - s.line)) None

-- a line, with blanks for all that does not belong to its part
abbrev pub own_line : List ℕ → Option Stretch → List ℕ
own_line line None = replicate (length line) 32
own_line line (Some s) = blanked s ++ replicate (length line - s.before - length s.bytes) 32

-- these lines with blanks for all that does not belong to their parts, where the first has this number
unfoldable pub own_lines : ℕ → List Stretch → List (List ℕ) → List (List ℕ)
own_lines number parts [] = []
own_lines number parts (l ∷ ls) = own_line l (part_on number parts) ∷ own_lines (number + 1) parts ls

-- the text of a block of Markdown, by its number from 1: the whole text, with blanks for all that does
-- not belong to the block
abbrev pub block_text : ℕ → Found → List ℕ
block_text number found = joined (own_lines 1 (block_parts number found) (lines_of found.text))

-- a text is a sequence diagram as a whole, or has a block that is one
abbrev pub has_sequence : Found → Bool
has_sequence found = found.whole || not (length found.numbers == 0)

abbrev pub has_sequence_in : Result Found ImportFault → Bool
has_sequence_in (Ok found) = has_sequence found
has_sequence_in (Err fault) = false

abbrev pub is_sequence_diagram : List ℕ → Bool
is_sequence_diagram text = has_sequence_in (markdown text)
