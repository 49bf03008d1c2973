-- What findings show of a diagram of a text.
use Rattle.std.specs.Prelude.{◌≡◌, ◌+◌, ◌-◌, ◌^◌, ◌++◌, ℕ, Bool, List, [], ◌∷◌, Option, None, Some, Result, Ok, Err, codes, cond, length, min, nat_eq, option_map, slice_get}
use Rattle.std.specs.Fmt.{decimal}
use Rattle.std.specs.String.{string_bytes}
use Rattle.msc_chart.specs.Drawings.{Drawing}
use Rattle.msc_chart.specs.declared.queue.Queues.{Queues}
use Rattle.msc_findings.specs.declared.format.Following.{Following}
use Rattle.msc_diagram.specs.declared.full.FullDiagram.{FullDiagram}
use Rattle.msc_markdown.specs.Markdowns.{markdown, Found}
use Rattle.msc_markdown.specs.declared.around.BlockKind.{BlockKind}
use Rattle.msc_markdown.specs.declared.around.BlockKind.TheVariants as kinds
use Rattle.msc_markdown.specs.declared.markdown.Start.{Start}
use Rattle.msc_mermaid.specs.declared.fault.ImportFault.{ImportFault}
use Rattle.msc_mermaid.specs.declared.statement.Span.{Span}
use Rattle.msc_shown_chart.specs.Words.{file_said}
use Rattle.msc_shown_diagram.specs.Diagrams.{Lends}
use Rattle.msc_shown_diagram.specs.Queues.{queues_written}
use Rattle.msc_shown_diagram.specs.Words.{AreWordsOf}
use Rattle.msc_answer.specs.declared.shown_diagram.DiagramText.{DiagramText}
use Rattle.msc_answer.specs.declared.shown_diagram.ShownDiagram.{ShownDiagram}

-- the line after a line, as far as numbers of lines go
abbrev pub line_after : ℕ → ℕ
line_after line = min (line + 1) (2 ^ 64 - 1)

-- the first line of a block: behind its fence, or that on which its markup begins
abbrev pub first_line_by : BlockKind → ℕ → ℕ
first_line_by kinds.Fenced line = line_after line
first_line_by kinds.Markup line = line
first_line_by kinds.Stray line = line

abbrev pub first_line : Start → ℕ
first_line start = first_line_by start.kind start.line

-- the first line of the block of this number, from 1
abbrev pub block_line : List Start → ℕ → Option ℕ
block_line blocks number = cond (nat_eq number 0) None (option_map first_line (slice_get blocks (number - 1)))

-- the first line of the only sequence diagram among the blocks
abbrev pub only_block_line : List Start → List ℕ → Option ℕ
only_block_line blocks (n ∷ []) = block_line blocks n
only_block_line blocks numbers = None

-- the first line of the block of the diagram that is taken from a text: of the given number, or else of
-- the only one; none if the text is a diagram as a whole
abbrev pub diagram_line : Found → Option ℕ → Option ℕ
diagram_line f (Some n) = block_line f.blocks n
diagram_line f None = cond f.whole None (only_block_line f.blocks f.numbers)

abbrev pub line_by : Option ℕ → Result Found ImportFault → Option ℕ
line_by number (Ok f) = diagram_line f number
line_by number (Err fault) = None

abbrev pub line_in : Option ℕ → List ℕ → Option ℕ
line_in number text = line_by number (markdown text)

-- a name of a file as people read it, with a line if there is one
unfoldable pub with_line : List ℕ → Option ℕ → List ℕ
with_line said None = said
with_line said (Some line) = said ++ (codes ":" ++ decimal line)

-- the name of a file in the closing line of a diagram, with the first line of its block
abbrev pub label_of : List ℕ → Option ℕ → List ℕ
label_of file line = with_line (file_said file) line

-- These are the words of a diagram of a text, by these places of the shown names of its lines, and the
-- names in its closing line: the file, and the queues between the instances of a chart, each named by
-- the identifier of its line in the text.
pub record IsShownDiagram (d : DiagramText) (shown : List (Option Span)) (chart : Drawing) (queues : Queues) (x : ShownDiagram) : Type 0 where
  pub words : AreWordsOf d.diagram.now shown d.file.now d.text.now x.words
  pub label : string_bytes x.label ≡ label_of d.file.now d.line
  pub queues_are : string_bytes x.queues ≡ queues_written d.diagram.now.lines (length chart.instances) queues

-- This is how the findings of a diagram are shown, with or without colours.
pub record IsFullDiagram (d : DiagramText) (shown : List (Option Span)) (chart : Drawing) (queues : Queues) (colours : Bool) (following : Following) (x : FullDiagram) : Type 0 where
  pub words : ShownDiagram
  pub are : IsShownDiagram d shown chart queues words
  pub lent : Lends d.text.now words.words x.lent.now
  pub diagram : x.diagram.now ≡ d.diagram.now
  pub text : x.text.now ≡ d.text.now
  pub file : x.names.file.now ≡ string_bytes words.label
  pub queues_are : x.names.queues.now ≡ string_bytes words.queues
  pub colours_are : x.names.colours ≡ colours
  pub following_is : x.following ≡ following
