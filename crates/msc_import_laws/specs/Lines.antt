-- The lines of a diagram, and the names that are drawn of them.
use Rattle.std.specs.Prelude.{◌≡◌, ◌↔◌, ℕ, List, [], Ok}
use Rattle.msc_chart.specs.Lists.{Occurs, StandsAt}
use Rattle.msc_import.specs.Drafting.{fitted, line_name}
use Rattle.msc_import.specs.Importing.{diagram_in}
use Rattle.msc_mermaid.specs.declared.statement.Diagram.{Diagram}
use Rattle.msc_scenarios.specs.Steps.{line_at}
use Rattle.msc_scenarios.specs.Naming.{names_behind}
use Rattle.msc_import_laws.specs.Imports.{Reading}

-- the name that is drawn of the line of a NAME
abbrev pub drawn_name : Diagram → List ℕ → List ℕ
drawn_name d ident = fitted (line_name (names_behind [] d.lines) (line_at d.lines ident))

-- nothing stands in a list twice
abbrev pub StandsOnce : {X : Type 0} → List X → Type 0
StandsOnce {X} xs = (i j : ℕ) (x : X) → StandsAt xs i x → StandsAt xs j x → i ≡ j

-- each NAME of a text is one line of its diagram
abbrev pub NamesAreLines : Type 0
NamesAreLines = (how : Reading) (text : List ℕ) (d : Diagram) → diagram_in how.language how.cross how.fence text ≡ Ok d → StandsOnce d.lines

-- the lines of two NAMEs are drawn under one name just where these are one NAME
abbrev pub NamesTellLinesApart : Type 0
NamesTellLinesApart =
    (how : Reading) (text : List ℕ) (d : Diagram) (x y : List ℕ) → diagram_in how.language how.cross how.fence text ≡ Ok d → Occurs d.lines x → Occurs d.lines y
    → (drawn_name d x ≡ drawn_name d y) ↔ (x ≡ y)
