-- What a text holds: a chart, a sequence diagram, the sequence diagrams of Markdown, or nothing.
use Rattle.std.specs.Prelude.{ℕ, Bool, true, false, ◌||◌, cond, nat_eq, nat_lt, List, length, Option, None, Some, Result, Ok, Err}
use Rattle.msc_lexer.specs.declared.TheConstants.{TEXT_LIMIT}
use Rattle.msc_markdown.specs.Markdowns.{Found, is_sequence_text, markdown}
use Rattle.msc_mermaid.specs.Lines.{lines_of}
use Rattle.msc_mermaid.specs.declared.fault.ImportFault.{ImportFault}
use Rattle.msc_scan.specs.declared.name.FileKind.{FileKind}
use Rattle.msc_scan.specs.declared.name.FileKind.TheVariants as kinds
use Rattle.msc_scanning.specs.declared.holding.Holding.{Holding}
use Rattle.msc_scanning.specs.declared.holding.Holding.TheVariants.{Nothing, Chart, Diagram, Blocks}

-- a file is Markdown by its name
abbrev pub is_markdown : Option FileKind → Bool
is_markdown None = false
is_markdown (Some kinds.Chart) = false
is_markdown (Some kinds.Mermaid) = false
is_markdown (Some kinds.Markdown) = true

-- the text of a Mermaid file is a sequence diagram, or too long to tell
abbrev pub is_mermaid_text : List ℕ → Bool
is_mermaid_text text = nat_lt TEXT_LIMIT (length text) || is_sequence_text (lines_of text)

-- what a text holds that was read as Markdown: a diagram as a whole; else its sequence diagrams; else
-- nothing in a file of Markdown, and otherwise a chart
abbrev pub holding_in : Bool → Found → Holding
holding_in named f =
    cond f.whole Diagram (cond (nat_eq (length f.numbers) 0) (cond named Nothing Chart) (Blocks f))

-- what a text holds by its content; one that is too long to be read as Markdown may hold diagrams if
-- its file is Markdown
abbrev pub holding_by : Bool → Result Found ImportFault → Holding
holding_by named (Ok f) = holding_in named f
holding_by named (Err fault) = cond named Diagram Chart

-- what a text holds, by how its file is read
abbrev pub holding_of : Option FileKind → List ℕ → Holding
holding_of (Some kinds.Chart) text = Chart
holding_of (Some kinds.Mermaid) text = cond (is_mermaid_text text) Diagram Nothing
holding_of (Some kinds.Markdown) text = holding_by true (markdown text)
holding_of None text = holding_by false (markdown text)
