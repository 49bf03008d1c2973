-- What a text is by its first line that counts: behind what is left out in front of a diagram.
use Rattle.std.specs.Prelude.{ℕ, false, cond, List, length, drop, codes}
use Rattle.msc_mermaid.specs.declared.ahead.Ahead.{Ahead}
use Rattle.msc_mermaid.specs.declared.ahead.Ahead.TheVariants as ahead
use Rattle.msc_mermaid.specs.declared.key.Mark.TheVariants as marks
use Rattle.msc_mermaid.specs.declared.seeking.Sought.TheVariants as sought
use Rattle.msc_mermaid.specs.declared.line_kind.LineKind.{LineKind}
use Rattle.msc_mermaid.specs.declared.line_kind.LineKind.TheVariants as line_kinds
use Rattle.msc_mermaid.specs.Cutting.{leaves_open}
use Rattle.msc_mermaid.specs.Keys.{begin_so, mark_text}
use Rattle.msc_mermaid.specs.Mermaid.{is_front, line_kind_of}
use Rattle.msc_mermaid.specs.Patterns.{is_empty}
use Rattle.msc_mermaid.specs.Seeking.{before, holds}
use Rattle.msc_mermaid.specs.White.{trimmed}

-- what follows the end of a directive on its line
abbrev pub behind_directive : List ℕ → List ℕ
behind_directive line =
    trimmed (drop (length (mark_text marks.DirectiveEnd)) (drop (before (sought.Text marks.DirectiveEnd) line) line))

-- behind a line within a directive
abbrev pub directed : List ℕ → Ahead
directed line =
    cond (holds line (sought.Text marks.DirectiveEnd)) (cond (is_empty (behind_directive line)) ahead.Behind ahead.Wrong) ahead.Directive

-- behind a first line that counts which begins no diagram: it may be a misspelt one
abbrev pub near : List ℕ → Ahead
near line = cond (begin_so (trimmed line) (codes "sequence")) ahead.Near ahead.Other

-- behind a line of this shape, where it is not left out as front matter
abbrev pub counted_as : List ℕ → LineKind → Ahead
counted_as line line_kinds.Nothing = ahead.Behind
counted_as line line_kinds.Directive = directed line
counted_as line line_kinds.Comment = cond (leaves_open false line) ahead.Wrong ahead.Behind
counted_as line line_kinds.Head = ahead.Diagram
counted_as line line_kinds.Other = near line

abbrev pub counted_in : List ℕ → Ahead
counted_in line = counted_as line (line_kind_of (trimmed line))

-- behind a line before which all lines are empty
abbrev pub started : List ℕ → Ahead
started line =
    cond (is_empty (trimmed line)) ahead.Start (cond (is_front (trimmed line)) ahead.Front (counted_in line))

-- behind one line more
unfoldable pub ahead_behind : List ℕ → Ahead → Ahead
ahead_behind line ahead.Start = started line
ahead_behind line ahead.Front = cond (is_front (trimmed line)) ahead.Behind ahead.Front
ahead_behind line ahead.Directive = directed line
ahead_behind line ahead.Behind = counted_in line
ahead_behind line ahead.Diagram = ahead.Diagram
ahead_behind line ahead.Near = ahead.Near
ahead_behind line ahead.Other = ahead.Other
ahead_behind line ahead.Wrong = ahead.Wrong
