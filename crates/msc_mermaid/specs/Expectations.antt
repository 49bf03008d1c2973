-- The words of faults.
use Rattle.std.specs.Prelude.{ℕ, List, codes}
use Rattle.msc_mermaid.specs.declared.fault.Expectation.{Expectation}
use Rattle.msc_mermaid.specs.declared.fault.Expectation.TheVariants.{Front, Directive, Description, LineEnd, StatementEnd, AnyDiagram, Diagram, Statement, Name, Label}
use Rattle.msc_mermaid.specs.declared.row.Closer.{Closer}
use Rattle.msc_mermaid.specs.declared.row.Closer.TheVariants as closers

-- the words of an expectation
abbrev pub expectation : Expectation → List ℕ
expectation Front = codes "---"
expectation Directive = codes "}%%"
expectation Description = codes "}"
expectation LineEnd = codes "the end of the line"
expectation StatementEnd = codes "the end of the statement"
expectation AnyDiagram = codes "a diagram"
expectation Diagram = codes "sequenceDiagram"
expectation Statement = codes "a statement"
expectation Name = codes "a name"
expectation Label = codes "a label"

-- a word that begins a branch, or ends a block
abbrev pub closer_word : Closer → List ℕ
closer_word closers.Else = codes "else"
closer_word closers.And = codes "and"
closer_word closers.Option = codes "option"
closer_word closers.End = codes "end"
