-- What holds of the draft of every path.
use Rattle.std.specs.Prelude.{◌≡◌, ℕ, List, [], map, Some, Ok, Err}
use Rattle.std.specs.List.{flat_map, slice_get}
use Rattle.msc_parser.specs.Drafts.{statements_in}
use Rattle.msc_mermaid.specs.declared.statement.Placed.{Placed}
use Rattle.msc_scenarios.specs.declared.steps.Step.{Step}
use Rattle.msc_scenarios.specs.declared.steps.Step.TheVariants as steps
use Rattle.msc_import.specs.declared.plan.Manner.{Manner}
use Rattle.msc_import.specs.declared.plan.Own.{Own}
use Rattle.msc_mermaid.specs.declared.statement.Diagram.{Diagram}
use Rattle.msc_import.specs.Drafting.{drawn_event, section_of}
use Rattle.msc_import.specs.Importing.{imported, read, reading_of, scenario_of, told_of, Refusal, Wanted}
use Rattle.msc_import.specs.Whole.{WantedAll, all_of, imported_all, reading_of_all}
use Rattle.msc_import.specs.Plans.{Event, Plan, plans_of, sides_on}

-- the ends that the arrow of a step has on a line, the upper one first
abbrev pub ends_on : Own → ℕ → Step → List Event
ends_on own line (steps.Meets m) = map (λ s. record { message = m; side = s }) (sides_on own line m)
ends_on own line (steps.Opens text) = []
ends_on own line steps.Next = []
ends_on own line steps.Closes = []

-- each line of a draft has the ends of the path's arrows in their order
abbrev pub LinesKeepTheArrowsOrder : Type 0
LinesKeepTheArrowsOrder =
    (manner : Manner) (names : List (List ℕ)) (line : ℕ) (ident : List ℕ) (ps : List Placed) (ss : List Step) (lines : ℕ) (plans : List Plan) (p : Plan) → plans_of manner ss lines ≡ Ok plans → slice_get plans line ≡ Some p → flat_map statements_in (section_of names line ident ps p).items ≡ map (drawn_event names) (flat_map (ends_on manner.own line) ss)

-- What is imported of a text is drawn of its diagram, if it has one; otherwise the text is refused as
-- its diagram is.
pub record ReadingComesFirst : Type 0 where
  pub one_of_diagram : (x : Wanted) (text : List ℕ) (d : Diagram) → read (reading_of x) text ≡ Ok d
      → imported x text ≡ told_of d.lines (scenario_of x d)
  pub one_refused : (x : Wanted) (text : List ℕ) (r : Refusal) → read (reading_of x) text ≡ Err r
      → imported x text ≡ Err r
  pub of_diagram : (x : WantedAll) (text : List ℕ) (d : Diagram) → read (reading_of_all x) text ≡ Ok d
      → imported_all x text ≡ told_of d.lines (all_of x d)
  pub refused : (x : WantedAll) (text : List ℕ) (r : Refusal) → read (reading_of_all x) text ≡ Err r
      → imported_all x text ≡ Err r
