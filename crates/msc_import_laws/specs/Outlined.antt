-- Diagrams as they are read: few lines, arrows between these lines, and each arrow with a number of its own.
use Rattle.std.specs.Prelude.{◌≡◌, ◌<◌, ◌≤◌, List, [], ◌∷◌, length}
use Rattle.msc_chart.specs.Lists.{Occurs}
use Rattle.msc_mermaid.specs.declared.TheConstants.{LINE_LIMIT}
use Rattle.msc_mermaid.specs.declared.statement.Arrow.{Arrow}
use Rattle.msc_mermaid.specs.declared.statement.Diagram.{Diagram}
use Rattle.msc_mermaid.specs.declared.statement.Placed.{Placed}
use Rattle.msc_mermaid.specs.declared.statement.Statement.TheVariants.{Says}

-- two statements are not arrows of one number
abbrev pub Differ : Placed → Placed → Type 0
Differ p q = (a b : Arrow) → p.statement ≡ Says a → q.statement ≡ Says b → p.number ≡ q.number → ⊥

-- no two of these statements are arrows of one number
abbrev pub AreDistinct : List Placed → Type 0
AreDistinct [] = Unit {0}
AreDistinct (p ∷ ps) = ((q : Placed) → Occurs ps q → Differ p q) × AreDistinct ps

-- a diagram as it is read
pub record IsOutlined (d : Diagram) : Type 0 where
  pub few_lines : length d.lines ≤ LINE_LIMIT
  pub distinct : AreDistinct d.statements
  pub low : (p : Placed) → Occurs d.statements p → p.number < 10000000
  pub known : (p : Placed) (a : Arrow) → Occurs d.statements p → p.statement ≡ Says a → Occurs d.lines a.from × Occurs d.lines a.to
