-- The drafts of diagrams: each is a chart, drawn from top to bottom, arrow by arrow.
use Rattle.std.specs.Prelude.{◌≡◌, List, ℕ, length, Ok}
use Rattle.msc_parser.specs.Grammar.{Tree}
use Rattle.msc_import.specs.declared.plan.Manner.{Manner}
use Rattle.msc_mermaid.specs.declared.statement.Diagram.{Diagram}
use Rattle.msc_import.specs.Drafting.{drawn}
use Rattle.msc_scenarios.specs.Laws.{walked}
use Rattle.msc_import_laws.specs.Apart.{IsDrawnDown}
use Rattle.msc_import_laws.specs.Ends.{heights_of}
use Rattle.msc_import_laws.specs.Outlined.{IsOutlined}

-- the heights of the events of a diagram's scenario with these choices: their arrows in the order of the walk
abbrev pub heights_in : Manner → Diagram → List ℕ → List ℕ
heights_in manner d given = heights_of manner.own (walked d given).steps (length d.lines)

-- each draft of a diagram as it is read is a chart, drawn from top to bottom
abbrev pub DiagramsAreDrawnDown : Type 0
DiagramsAreDrawnDown =
    (manner : Manner) (name : List ℕ) (d : Diagram) (given : List ℕ) (draft : Tree) → IsOutlined d → drawn manner name d given ≡ Ok draft
    → IsDrawnDown (heights_in manner d given) draft
