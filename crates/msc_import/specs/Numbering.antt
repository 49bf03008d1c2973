-- The numbers of the arrows of a draft's events. Arrows are numbered from 0 along the path of a
-- scenario; an arrow that a path meets in two rounds of a loop has two numbers.
use Rattle.std.specs.Prelude.{◌≡◌, ℕ, ◌+◌, List, [], ◌∷◌, ◌++◌, length, map, option_map, replicate, slice_get, Some, Result, Ok, Err}
use Rattle.std.specs.List.{flat_map, range_with_len}
use Rattle.msc_mermaid.specs.declared.TheConstants.{DEPTH_LIMIT}
use Rattle.msc_mermaid.specs.declared.fault.ImportFault.{ImportFault}
use Rattle.msc_mermaid.specs.declared.statement.Diagram.{Diagram}
use Rattle.msc_mermaid.specs.Gives.{◌>>=◌}
use Rattle.msc_place.specs.declared.position.Position.{Position}
use Rattle.msc_scenarios.specs.declared.steps.Message.{Message}
use Rattle.msc_scenarios.specs.declared.steps.Step.{Step}
use Rattle.msc_scenarios.specs.declared.steps.Step.TheVariants as steps
use Rattle.msc_scenarios.specs.Steps.{Walk, walk, at_rest, unended}
use Rattle.msc_import.specs.declared.plan.Manner.{Manner}
use Rattle.msc_import.specs.declared.plan.Own.{Own}
use Rattle.msc_import.specs.Places.{places}
use Rattle.msc_import.specs.Plans.{Plan, plans_of, sides_on}

-- the arrow that a step meets, if it meets one
abbrev pub arrow_of : Step → List Message
arrow_of (steps.Meets m) = m ∷ []
arrow_of (steps.Opens text) = []
arrow_of steps.Next = []
arrow_of steps.Closes = []

-- the arrows of a path, in its order
abbrev pub arrows_of : List Step → List Message
arrows_of ss = flat_map arrow_of ss

-- The numbers of these arrows, each as often as the arrow has ends on a line. The first arrow has
-- this number.
unfoldable pub numbers_from : Own → ℕ → ℕ → List Message → List ℕ
numbers_from own line n [] = []
numbers_from own line n (m ∷ ms) =
    replicate (length (sides_on own line m)) n ++ numbers_from own line (n + 1) ms

-- those of the arrows of a path on this number of lines, the first line first
abbrev pub numbers_on_lines : Own → ℕ → List Message → List ℕ
numbers_on_lines own lines ms = flat_map (λ line. numbers_from own line 0 ms) (range_with_len 0 lines)

-- those of the arrows of a walk, if it has a draft
unfoldable pub walk_numbers : Manner → Walk → Result (List ℕ) ImportFault
walk_numbers manner w = do
  plans ← plans_of manner w.steps (length w.lines)
  whole ← unended w w.ending
  Ok (numbers_on_lines manner.own (length w.lines) (arrows_of w.steps))

-- those of the arrows of a diagram's scenario with these choices
unfoldable pub arrow_numbers : Manner → Diagram → List ℕ → Result (List ℕ) ImportFault
arrow_numbers manner d given =
    walk_numbers manner (walk (DEPTH_LIMIT + 1) d.statements [] (at_rest d.lines given))

-- the arrows of a diagram's scenario with these choices, in the order of its path
abbrev pub scenario_arrows : Diagram → List ℕ → List Message
scenario_arrows d given =
    arrows_of (walk (DEPTH_LIMIT + 1) d.statements [] (at_rest d.lines given)).steps

-- where an arrow begins in the text
abbrev pub start_of_arrow : Message → Position
start_of_arrow m = record { line = m.line; column = m.column }

-- The numbers name the arrows. The events of a draft, line by line, are ends of the arrows with
-- these numbers. So there are as many numbers as positions, and each position is that of the arrow
-- with the number. A scenario without a draft has no numbers, for the same reason.
pub record NumbersNameTheArrows : Type 0 where
  pub events : (manner : Manner) (ss : List Step) (lines : ℕ) (plans : List Plan) → plans_of manner ss lines ≡ Ok plans
      → map (slice_get (arrows_of ss)) (numbers_on_lines manner.own lines (arrows_of ss)) ≡ map (λ e. Some e.message) (flat_map (λ p. p.events) plans)
  pub positions : (manner : Manner) (d : Diagram) (given : List ℕ) (ps : List Position) → places manner d given ≡ Ok ps
      → (ns : List ℕ) × (arrow_numbers manner d given ≡ Ok ns) × (map (λ n. option_map start_of_arrow (slice_get (scenario_arrows d given) n)) ns ≡ map Some ps)
  pub refused : (manner : Manner) (d : Diagram) (given : List ℕ) (fault : ImportFault) → places manner d given ≡ Err fault
      → arrow_numbers manner d given ≡ Err fault
