-- The arrows of a diagram that stand in no block.
use Rattle.std.specs.Prelude.{◌≡◌, ℕ, zero, suc, ◌+◌, Bool, false, List, [], ◌∷◌, ◌++◌}
use Rattle.msc_mermaid.specs.declared.TheConstants.{DEPTH_LIMIT}
use Rattle.msc_mermaid.specs.declared.statement.Arrow.{Arrow}
use Rattle.msc_mermaid.specs.declared.statement.Diagram.{Diagram}
use Rattle.msc_mermaid.specs.declared.statement.Placed.{Placed}
use Rattle.msc_mermaid.specs.declared.statement.Statement.{Statement}
use Rattle.msc_mermaid.specs.declared.statement.Statement.TheVariants.{Says}
use Rattle.msc_scenarios.specs.declared.steps.Step.{Step}
use Rattle.msc_scenarios.specs.declared.steps.Step.TheVariants as steps
use Rattle.msc_scenarios.specs.Steps.{message_of, owned_by}
use Rattle.msc_scenarios.specs.Histories.{History, Through}

-- a statement before these, if it is an arrow
abbrev pub with_arrow : Placed → Statement → List Placed → List Placed
with_arrow p (Says arrow) ps = p ∷ ps
with_arrow p s ps = ps

-- the arrows in no block of these statements, of which the first so many belong to one before them
unfoldable pub outer : ℕ → List Placed → List Placed
outer n [] = []
outer (suc n) (p ∷ ps) = outer n ps
outer zero (p ∷ ps) = with_arrow p p.statement (outer (owned_by p.statement ps) ps)

-- these arrows are met one after the other among the steps, in no round of a loop
unfoldable pub AreMet : List (List ℕ) → List Placed → List Step → Type 0
AreMet lines [] ss = Unit {0}
AreMet lines (p ∷ ps) ss =
    (arrow : Arrow) × (lost : Bool) × (before : List Step) × (after : List Step) × (p.statement ≡ Says arrow)
    × (ss ≡ before ++ steps.Meets (message_of lines p arrow lost []) ∷ after) × AreMet lines ps after

-- an arrow in no block is met in each history that no break ends, and such arrows in the order of
-- the text
abbrev pub OutsideOfAllBlocks : Type 0
OutsideOfAllBlocks =
    (rounds : List ℕ) (d : Diagram) (h : History) → Through d.lines rounds (DEPTH_LIMIT + 1) [] d.statements h false → AreMet d.lines (outer 0 d.statements) h.steps
