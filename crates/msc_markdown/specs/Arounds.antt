-- One line more of a text of Markdown: what of it belongs to a block, and which block is around the
-- next one.
use Rattle.std.specs.Prelude.{ℕ, ◌+◌, ◌-◌, Bool, cond, not, ◌||◌, ◌&&◌, ◌==◌, nat_le, nat_lt, List, [], ◌∷◌, length, take, drop, count_by, Option, None, Some}
use Rattle.std.specs.List.{prefix_len}
use Rattle.msc_lexer.specs.Bytes.{begins, is_run_byte}
use Rattle.msc_markdown.specs.declared.around.Around.{Around}
use Rattle.msc_markdown.specs.declared.around.BlockKind.{BlockKind}
use Rattle.msc_markdown.specs.declared.around.BlockKind.TheVariants as kinds
use Rattle.msc_markdown.specs.declared.closing.Closing.{Closing}
use Rattle.msc_markdown.specs.declared.closing.Closing.TheVariants as closings
use Rattle.msc_markdown.specs.declared.closing.Ends.{Ends}
use Rattle.msc_mermaid.specs.Lines.{is_counted}
use Rattle.msc_mermaid.specs.Mermaid.{is_head}
use Rattle.msc_mermaid.specs.Parts.{Stretch}
use Rattle.msc_mermaid.specs.Patterns.{is_empty}
use Rattle.msc_mermaid.specs.White.{trimmed}
use Rattle.msc_markdown.specs.Closings.{before_end, closing_of, has_options, is_end, is_marked, text_of}
use Rattle.msc_markdown.specs.Marks.{is_quoted, marks, quoted, quotes, quotes_before}

-- what a line leaves: what of it belongs to a block, the form of the block of a diagram that starts
-- on it, and the block around the next line
pub record Left : Type 0 where
  pub part : Stretch
  pub start : Option BlockKind
  pub after : Option Around

-- nothing of the line of a number
abbrev pub nothing : ℕ → Stretch
nothing at = record { line = at; before = 0; skipped = 0; bytes = [] }

-- `:`
abbrev pub is_colon : ℕ → Bool
is_colon b = b == 58

-- a byte of the name of an option
abbrev pub is_option_byte : ℕ → Bool
is_option_byte b = is_run_byte b || b == 45

-- a name of so many bytes between colons
abbrev pub is_option_of : ℕ → List ℕ → Bool
is_option_of n bytes = nat_lt 0 n && begins is_colon (drop n bytes)

-- an option of MyST
abbrev pub is_option : List ℕ → Bool
is_option bytes =
    begins is_colon bytes && is_option_of (prefix_len is_option_byte (drop 1 bytes)) (drop 1 bytes)

-- a line of a block that is left out: an option, or an empty line among them
abbrev pub is_left_out : Around → List ℕ → Bool
is_left_out around bytes =
    around.options && (is_empty (trimmed bytes) || is_option (trimmed bytes))

-- what belongs to the block of what stands behind so many columns of a line, which have so many
-- bytes
abbrev pub part_of : ℕ → Around → ℕ → ℕ → List ℕ → Stretch
part_of at around before skipped bytes =
    cond (around.marked && not (is_left_out around bytes)) (record { line = at; before = before; skipped = skipped; bytes = bytes }) (nothing at)

-- the block goes on, perhaps with further options
abbrev pub on_behind : Around → List ℕ → Around
on_behind around bytes = record {
  quotes = around.quotes;
  closing = around.closing;
  marked = around.marked;
  options = is_left_out around bytes;
}

-- a line of a block, of which this stands behind so many columns, which have so many bytes
unfoldable pub within : ℕ → Around → Option BlockKind → ℕ → ℕ → List ℕ → Left
within at around start before skipped held = record {
  part = part_of at around before skipped (before_end around.closing held);
  start = start;
  after = cond (is_end around.closing held) None (Some (on_behind around (before_end around.closing held)));
}

-- the form of a block with this end
abbrev pub form_of : Closing → BlockKind
form_of (closings.Element t) = kinds.Markup
form_of (closings.Short k) = kinds.Markup
form_of c = kinds.Fenced

-- the line behind the marks in front
abbrev pub behind_marks : List ℕ → List ℕ
behind_marks line = drop (marks 0 line) line

-- the block that starts with a line, and has this end
abbrev pub around_of : Closing → List ℕ → Around
around_of closing line = record {
  quotes = quotes (take (marks 0 line) line);
  closing = closing;
  marked = is_marked closing (behind_marks line);
  options = has_options closing (behind_marks line);
}

-- the columns of a line before these bytes, which are its last ones
abbrev pub columns_before : List ℕ → List ℕ → ℕ
columns_before line bytes = count_by is_counted (take (length line - length bytes) line)

-- the form of a block of a diagram
abbrev pub start_of : Around → Option BlockKind
start_of around = cond around.marked (Some (form_of around.closing)) None

-- a line that a block starts with
abbrev pub begun : ℕ → Closing → List ℕ → Left
begun at closing line =
    within at (around_of closing line) (start_of (around_of closing line)) (columns_before line (text_of closing (behind_marks line))) (length line - length (text_of closing (behind_marks line))) (text_of closing (behind_marks line))

-- how many bytes of block quotes a line has in front
abbrev pub quoted_front : List ℕ → ℕ
quoted_front line = prefix_len is_quoted line

-- a line outside of all blocks which begins a diagram
abbrev pub stray : ℕ → List ℕ → Left
stray at line = record {
  part = record { line = at; before = quoted_front line; skipped = quoted_front line; bytes = drop (quoted_front line) line };
  start = Some kinds.Stray;
  after = None;
}

-- a line that no block starts with
abbrev pub passed : ℕ → List ℕ → Left
passed at line =
    cond (is_head (drop (quoted_front line) line)) (stray at line) (record { part = nothing at; start = None; after = None })

-- a line outside of all blocks
abbrev pub outside_by : ℕ → List ℕ → Option Closing → Left
outside_by at line None = passed at line
outside_by at line (Some closing) = begun at closing line

abbrev pub outside : ℕ → Ends → List ℕ → Left
outside at ends line = outside_by at line (closing_of ends (behind_marks line))

-- the line of a number that this block is around, if any: it ends before a line with fewer marks of
-- block quotes
unfoldable pub left_by : ℕ → Ends → List ℕ → Option Around → Left
left_by at ends line None = outside at ends line
left_by at ends line (Some around) =
    cond (nat_le around.quotes (quotes_before line)) (within at around None (quoted around.quotes line) (quoted around.quotes line) (drop (quoted around.quotes line) line)) (outside at ends line)
