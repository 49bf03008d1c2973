-- The bytes of spans of a text.
use Rattle.std.specs.Prelude.{ℕ, ◌&&◌, cond, List, [], length, nat_le, slice_range}
use Rattle.msc_mermaid.specs.declared.statement.Span.{Span}

-- the bytes of a text in a span, or none if the text is shorter
abbrev pub bytes_at : List ℕ → Span → List ℕ
bytes_at text span =
    cond (nat_le span.first span.past && nat_le span.past (length text)) (slice_range text span.first span.past) []
