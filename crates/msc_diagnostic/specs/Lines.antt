-- The lines of a text, from line 1.
use Rattle.std.specs.Prelude.{ℕ, ◌+◌, ◌-◌, Bool, cond, not, ◌&&◌, ◌||◌, ◌==◌, nat_le, List, Option, None, Some, length, take, drop, slice_get, slice_index}
use Rattle.std.specs.List.{filter, prefix_len, range_with_len}
use Rattle.msc_diagnostic.specs.declared.source.LineEnds.{LineEnds}
use Rattle.msc_diagnostic.specs.declared.source.LineEnds.TheVariants.{LineFeed, Any}

-- This byte, before that one, ends a line: a line feed does; a carriage return too if each kind of
-- end counts, but for one before a line feed.
abbrev pub ends_line : LineEnds → ℕ → ℕ → Bool
ends_line LineFeed byte next = byte == 10
ends_line Any byte next = byte == 10 || (byte == 13 && not (next == 10))

-- A line begins at this place: at the first byte of the text, or behind a byte that ends a line.
abbrev pub begins_line : LineEnds → List ℕ → ℕ → Bool
begins_line ends text at = at == 0 || ends_line ends (slice_index text (at - 1)) (slice_index text at)

-- the places where lines begin
abbrev pub line_starts : LineEnds → List ℕ → List ℕ
line_starts ends text = filter (begins_line ends text) (range_with_len 0 (length text + 1))

-- the line of a place: how many lines at the front begin at it or before it
abbrev pub line_of : List ℕ → ℕ → ℕ
line_of starts at = prefix_len (λ start. nat_le start at) starts

-- the place where a line begins
abbrev pub start_of : List ℕ → ℕ → ℕ
start_of starts line = slice_index starts (line - 1)

-- the last byte, and the last but one
abbrev pub last_byte : List ℕ → ℕ
last_byte bytes = slice_index bytes (length bytes - 1)

abbrev pub without_last : List ℕ → List ℕ
without_last bytes = take (length bytes - 1) bytes

-- bytes without this one at their end
abbrev pub without : ℕ → List ℕ → List ℕ
without byte bytes = cond (last_byte bytes == byte) (without_last bytes) bytes

-- a line without its end
abbrev pub without_end : List ℕ → List ℕ
without_end bytes = without 13 (without 10 bytes)

-- the bytes of a line that begins here, without its end; the next line begins there, if there is one
abbrev pub line_up_to : List ℕ → ℕ → Option ℕ → List ℕ
line_up_to text start None = drop start text
line_up_to text start (Some next) = without_end (take (next - start) (drop start text))

-- the bytes of a line, without its end
unfoldable pub line_bytes : List ℕ → List ℕ → ℕ → List ℕ
line_bytes starts text line = line_up_to text (start_of starts line) (slice_get starts line)
