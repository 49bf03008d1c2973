-- Where the events of an import stand in the text, and what stands there.
use Rattle.std.specs.Prelude.{◌≡◌, ℕ, Bool, List, [], Ok}
use Rattle.msc_chart.specs.Events.{DraftEvent, act_of, events_of}
use Rattle.msc_chart.specs.Lists.{Occurs, StandsAt}
use Rattle.msc_import.specs.declared.importing.Imported.{Imported}
use Rattle.msc_import.specs.declared.plan.Manner.{Manner}
use Rattle.msc_import.specs.Drafting.{drawn_event, fitted, line_name}
use Rattle.msc_import.specs.Importing.{Wanted, diagram_in, imported}
use Rattle.msc_import.specs.Laws.{ends_on}
use Rattle.msc_import.specs.Plans.{Event}
use Rattle.msc_mermaid.specs.declared.statement.Arrow.{Arrow}
use Rattle.msc_mermaid.specs.declared.statement.Diagram.{Diagram}
use Rattle.msc_mermaid.specs.declared.statement.Placed.{Placed}
use Rattle.msc_mermaid.specs.declared.statement.Statement.TheVariants.{Says}
use Rattle.msc_place.specs.declared.position.Position.{Position}
use Rattle.msc_scenarios.specs.declared.steps.Step.TheVariants as steps
use Rattle.msc_scenarios.specs.Steps.{message_of}
use Rattle.msc_scenarios.specs.Naming.{names_behind}

-- An event stands where the statement of an arrow begins, and is an end of that arrow in some
-- rounds, where it is lost or arrives: it has the arrow's lines, label and number.
pub record SpellsItsArrow (manner : Manner) (d : Diagram) (places : List Position) (e : ℕ) (v : DraftEvent) : Type 0 where
  pub statement : Placed
  pub arrow : Arrow
  pub lost : Bool
  pub rounds : List ℕ
  pub end : Event
  pub stands : Occurs d.statements statement
  pub says : statement.statement ≡ Says arrow
  pub message : end.message ≡ message_of d.lines statement arrow lost rounds
  pub its : Occurs (ends_on manner.own v.line (steps.Meets end.message)) end
  pub does : v.act ≡ act_of (fitted (line_name (names_behind [] d.lines) v.line)) (drawn_event (names_behind [] d.lines) end)
  pub place : StandsAt places e (record { line = statement.line; column = statement.column })

-- each event of what is imported of a text is placed so
abbrev pub PlacesSpellTheirArrows : Type 0
PlacesSpellTheirArrows =
    (x : Wanted) (text : List ℕ) (is : Imported) → imported x text ≡ Ok is
    → (d : Diagram) × (diagram_in x.language x.cross x.fence text ≡ Ok d) × ((e : ℕ) (v : DraftEvent) → StandsAt (events_of is.draft) e v → SpellsItsArrow x.manner d is.places e v)
