-- The blocks of a text of Markdown, and which of them are sequence diagrams.
use Rattle.std.specs.Prelude.{ℕ, ◌+◌, ◌-◌, Bool, true, false, cond, not, ◌&&◌, ◌==◌, nat_le, nat_lt, List, [], ◌∷◌, length, map, take, drop, count_by, slice_get, Option, None, Some, Result, Ok, Err}
use Rattle.std.specs.List.{list_any}
use Rattle.msc_lexer.specs.declared.TheConstants.{TEXT_LIMIT}
use Rattle.msc_mermaid.specs.declared.ahead.Ahead.{Ahead}
use Rattle.msc_mermaid.specs.declared.ahead.Ahead.TheVariants as ahead
use Rattle.msc_mermaid.specs.declared.fault.Expectation.TheVariants as expectations
use Rattle.msc_mermaid.specs.declared.fault.ImportFault.{ImportFault}
use Rattle.msc_mermaid.specs.declared.fault.ImportFault.TheVariants.{Expected, NoDiagram, Stray, TooLong}
use Rattle.msc_mermaid.specs.declared.statement.Cross.{Cross}
use Rattle.msc_mermaid.specs.declared.statement.Diagram.{Diagram}
use Rattle.msc_mermaid.specs.Aheads.{ahead_behind}
use Rattle.msc_mermaid.specs.Lines.{lines_of, starts_of}
use Rattle.msc_mermaid.specs.Mermaid.{end_of, is_head}
use Rattle.msc_mermaid.specs.Parts.{Stretch, first_place, said_of}
use Rattle.msc_mermaid.specs.Seeking.{entity_in}
use Rattle.msc_mermaid.specs.White.{trimmed}
use Rattle.msc_place.specs.declared.position.Position.{Position}
use Rattle.msc_markdown.specs.declared.around.Around.{Around}
use Rattle.msc_markdown.specs.declared.around.BlockKind.{BlockKind}
use Rattle.msc_markdown.specs.declared.around.BlockKind.TheVariants as kinds
use Rattle.msc_markdown.specs.declared.closing.Ends.{Ends}
use Rattle.msc_markdown.specs.declared.markdown.Start.{Start}
use Rattle.msc_markdown.specs.declared.markup.Shortcode.TheVariants as shortcodes
use Rattle.msc_markdown.specs.declared.seeking.Sought.TheVariants as sought
use Rattle.msc_markdown.specs.Arounds.{Left, left_by}
use Rattle.msc_markdown.specs.Seeking.{holds}

-- on how many of these lines the block of a shortcode may end
abbrev pub ends_in : List (List ℕ) → Ends
ends_in lines = record {
  angle = count_by (holds (sought.ShortcodeEnd shortcodes.Angle)) lines;
  percent = count_by (holds (sought.ShortcodeEnd shortcodes.Percent)) lines;
}

-- what of each of these lines belongs to a block, where the first one has this number, and this
-- block is around it, if any
unfoldable pub parts_from : ℕ → Option Around → List (List ℕ) → List Stretch
parts_from n around [] = []
parts_from n around (l ∷ ls) =
    (left_by n (ends_in ls) l around).part ∷ parts_from (n + 1) (left_by n (ends_in ls) l around).after ls

-- the start of a block on the line of this number, before others
abbrev pub start_at : ℕ → Option BlockKind → List Start → List Start
start_at n None starts = starts
start_at n (Some kind) starts = record { line = n; kind = kind } ∷ starts

-- the blocks of diagrams that start on these lines, of which the first one has this number
unfoldable pub starts_from : ℕ → Option Around → List (List ℕ) → List Start
starts_from n around [] = []
starts_from n around (l ∷ ls) =
    start_at n (left_by n (ends_in ls) l around).start (starts_from (n + 1) (left_by n (ends_in ls) l around).after ls)

-- a single line outside of all blocks, and a block that is none
abbrev pub is_stray : BlockKind → Bool
is_stray kinds.Stray = true
is_stray f = false

abbrev pub is_block : Start → Bool
is_block start = not (is_stray start.kind)

-- the blocks of diagrams: single lines outside of others count where there are others
abbrev pub blocks_of : List Start → List Start
blocks_of starts = cond (list_any is_block starts) starts []

-- the line on which the first of these blocks starts, and else this one
abbrev pub next_line : List Start → ℕ → ℕ
next_line [] last = last
next_line (s ∷ ss) last = s.line

-- what belongs to a block before these others
abbrev pub own_parts : Start → List Start → List Stretch → List Stretch
own_parts s others parts =
    take (next_line others (length parts + 1) - s.line) (drop (s.line - 1) parts)

-- what belongs to the first of these blocks, and nothing if there is none
abbrev pub first_parts : List Start → List Stretch → List Stretch
first_parts [] parts = []
first_parts (s ∷ ss) parts = own_parts s ss parts

-- what stands ahead behind these lines
unfoldable pub look : Ahead → List (List ℕ) → Ahead
look a [] = a
look a (l ∷ ls) = look (ahead_behind l a) ls

-- the text is a sequence diagram, perhaps a misspelt one, by what stands ahead of these lines
abbrev pub is_sequence_by : List (List ℕ) → Ahead → Bool
is_sequence_by lines ahead.Start = false
is_sequence_by lines ahead.Behind = false
is_sequence_by lines ahead.Diagram = true
is_sequence_by lines ahead.Near = true
is_sequence_by lines ahead.Other = false
is_sequence_by lines a = list_any (holds sought.Diagram) lines

-- the text of these lines is one
abbrev pub is_sequence_text : List (List ℕ) → Bool
is_sequence_text lines = is_sequence_by lines (look ahead.Start lines)

-- a block of these lines is a sequence diagram
abbrev pub is_sequence : BlockKind → List (List ℕ) → Bool
is_sequence kinds.Stray lines = true
is_sequence kinds.Fenced lines = is_sequence_text lines
is_sequence kinds.Markup lines = is_sequence_text lines

-- the bytes of parts
abbrev pub bytes_in : List Stretch → List (List ℕ)
bytes_in parts = map (λ s. s.bytes) parts

-- the number of a block, before others, if it is a sequence diagram
abbrev pub number_if : Bool → ℕ → List ℕ → List ℕ
number_if is n others = cond is (n ∷ others) others

-- the numbers of these blocks that are sequence diagrams, where the first one has this number
unfoldable pub numbers_from : ℕ → List Start → List Stretch → List ℕ
numbers_from n [] parts = []
numbers_from n (s ∷ ss) parts =
    number_if (is_sequence s.kind (bytes_in (own_parts s ss parts))) n (numbers_from (n + 1) ss parts)

-- the first line that counts begins a sequence diagram: by what stands ahead, and of these lines
abbrev pub is_begun : Ahead → Bool
is_begun ahead.Diagram = true
is_begun a = false

abbrev pub is_diagram : List (List ℕ) → Bool
is_diagram lines = is_begun (look ahead.Start lines)

-- What a text holds: where its lines begin, and where it ends; whether it is a sequence diagram as
-- a whole; what of each line belongs to a block; the blocks of diagrams; and the numbers, from 1,
-- of those that are sequence diagrams.
pub record Found : Type 0 where
  pub text : List ℕ
  pub line_starts : List ℕ
  pub end : Position
  pub whole : Bool
  pub parts : List Stretch
  pub blocks : List Start
  pub numbers : List ℕ

-- what these lines of a text hold, where blocks start so
abbrev pub found_of : List ℕ → List (List ℕ) → List Stretch → List Start → Found
found_of text lines parts blocks = record {
  text = text;
  line_starts = starts_of text;
  end = end_of lines;
  whole = is_diagram lines;
  parts = parts;
  blocks = blocks;
  numbers = numbers_from 1 blocks parts;
}

abbrev pub found_in : List ℕ → Found
found_in text =
    found_of text (lines_of text) (parts_from 1 None (lines_of text)) (blocks_of (starts_from 1 None (lines_of text)))

-- what a text holds that is not too long
unfoldable pub markdown : List ℕ → Result Found ImportFault
markdown text = cond (nat_lt TEXT_LIMIT (length text)) (Err TooLong) (Ok (found_in text))

-- what belongs to the block of a number, from 1
unfoldable pub block_parts : ℕ → Found → List Stretch
block_parts n f = cond (nat_le 1 n) (first_parts (drop (n - 1) f.blocks) f.parts) []

-- a line of these begins a diagram
abbrev pub has_head : List (List ℕ) → Bool
has_head lines = list_any (λ l. is_head (trimmed l)) lines

-- a browser reads the block first
abbrev pub is_markup : BlockKind → Bool
is_markup kinds.Markup = true
is_markup f = false

-- the text of these parts may be of any language, and is of none
abbrev pub is_none : Bool → List Stretch → Bool
is_none any parts = any && not (has_head (bytes_in parts))

-- the diagram of a block of these parts, which a browser reads first or not; of any language, if it
-- may be any
abbrev pub said_by : Bool → Bool → Option Cross → Found → List Stretch → Result Diagram ImportFault
said_by markup any cross f parts =
    cond (is_none any parts) (Err (Expected (first_place parts f.end) expectations.AnyDiagram)) (said_of markup cross f.line_starts f.end parts)

-- the diagram of a block
abbrev pub block_diagram : Bool → Option Cross → Found → Start → List Start → Result Diagram ImportFault
block_diagram any cross f s others =
    cond (is_block s) (said_by (is_markup s.kind) any cross f (own_parts s others f.parts)) (Err (Stray (first_place (own_parts s others f.parts) f.end)))

-- that of the first of these blocks, of which it has this number
abbrev pub first_diagram : Bool → Option Cross → Found → ℕ → List Start → Result Diagram ImportFault
first_diagram any cross f n [] = Err (NoDiagram n)
first_diagram any cross f n (s ∷ ss) = block_diagram any cross f s ss

-- the diagram of the block of a number, from 1
unfoldable pub diagram_of_block : Bool → Option Cross → ℕ → Found → Result Diagram ImportFault
diagram_of_block any cross n f =
    cond (nat_le 1 n) (first_diagram any cross f n (drop (n - 1) f.blocks)) (Err (NoDiagram n))

-- the bytes of the first of these parts
abbrev pub first_bytes : List Stretch → List ℕ
first_bytes [] = []
first_bytes (s ∷ ss) = s.bytes

-- the first entity of HTML in the part of the line of a number, from 1, or nothing
abbrev pub entity_on : ℕ → Found → List ℕ
entity_on line f = entity_in (first_bytes (drop (line - 1) f.parts))
