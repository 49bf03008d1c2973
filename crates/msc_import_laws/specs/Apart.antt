-- Paths whose arrows and lines are told apart by what is drawn of them. Each is a chart.
use Rattle.std.specs.Prelude.{◌≡◌, ℕ, ◌<◌, ◌≤◌, cond, List, [], length, Ok}
use Rattle.std.specs.List.{sum_by}
use Rattle.msc_chart.specs.declared.TheConstants.{ACTION_LIMIT, INSTANCE_LIMIT, MESSAGE_LIMIT}
use Rattle.msc_chart.specs.Drawings.{chart_events}
use Rattle.msc_chart.specs.Faults.{IsFaultless}
use Rattle.msc_chart.specs.Lists.{StandsAt}
use Rattle.msc_parser.specs.Grammar.{Tree}
use Rattle.msc_scenarios.specs.declared.steps.Message.{Message}
use Rattle.msc_scenarios.specs.declared.steps.Step.{Step}
use Rattle.msc_scenarios.specs.declared.steps.Step.TheVariants as steps
use Rattle.msc_import.specs.declared.plan.Manner.{Manner}
use Rattle.msc_mermaid.specs.declared.statement.Placed.{Placed}
use Rattle.msc_import.specs.Drafting.{fitted, line_name, sections_on, tree_of}
use Rattle.msc_import.specs.Plans.{Plan, plans_of}
use Rattle.msc_import_laws.specs.Ends.{heights_of}
use Rattle.msc_import_laws.specs.Heights.{AreDrawnAt}

-- how many messages a step has
abbrev pub messages_in : Step → ℕ
messages_in (steps.Meets m) = cond m.both 2 1
messages_in step = 0

-- A path between so many lines of these names: the lines are told apart by the names that are drawn
-- of them, the arrows by the numbers that are drawn of them, both ends of each arrow are lines, and
-- neither are too many for a chart.
pub record IsToldApart (lines : ℕ) (names : List (List ℕ)) (ss : List Step) : Type 0 where
  pub few_lines : lines ≤ INSTANCE_LIMIT
  pub few_messages : sum_by messages_in ss ≤ MESSAGE_LIMIT
  pub few_actions : sum_by messages_in ss ≤ ACTION_LIMIT
  pub lines_apart : (i j : ℕ) → i < lines → j < lines → fitted (line_name names i) ≡ fitted (line_name names j) → i ≡ j
  pub arrows_apart : (i j : ℕ) (m n : Message) → StandsAt ss i (steps.Meets m) → StandsAt ss j (steps.Meets n) → fitted m.number ≡ fitted n.number → i ≡ j
  pub known : (i : ℕ) (m : Message) → StandsAt ss i (steps.Meets m) → (m.from < lines) × (m.to < lines)

-- a draft that is a chart, drawn from top to bottom at these heights
pub record IsDrawnDown (heights : List ℕ) (draft : Tree) : Type 0 where
  pub faultless : IsFaultless draft
  pub drawn : AreDrawnAt heights (chart_events draft)

-- the draft of such a path is a chart, drawn from top to bottom, arrow by arrow
abbrev pub PathsAreDrawnDown : Type 0
PathsAreDrawnDown =
    (manner : Manner) (name : List ℕ) (lines names : List (List ℕ)) (ps : List Placed) (ss : List Step) (plans : List Plan)
    → plans_of manner ss (length lines) ≡ Ok plans → IsToldApart (length lines) names ss
    → IsDrawnDown (heights_of manner.own ss (length lines)) (tree_of name (sections_on lines names ps 0 plans []))
