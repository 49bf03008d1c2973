-- The bytes of spans of a text.
use Rattle.std.specs.Prelude.{ℕ, ◌&&◌, cond, List, [], length, nat_le, slice_range, Option, None, Some}
use Rattle.msc_mermaid.specs.declared.statement.Span.{Span}

-- the bytes of a text in a span, or none if the text is shorter
abbrev pub bytes_at : List ℕ → Span → List ℕ
bytes_at text span =
    cond (nat_le span.first span.past && nat_le span.past (length text)) (slice_range text span.first span.past) []

-- the bytes in a span if there is one
abbrev pub bytes_if : List ℕ → Option Span → List ℕ
bytes_if text None = []
bytes_if text (Some span) = bytes_at text span
