-- Scenarios of a diagram, each by its choices, or why there are none.
use Rattle.std.specs.Prelude.{◌≡◌, ℕ, Bool, drop, not, List, [], ◌∷◌, ◌++◌, length, Result, Ok, Err, is_ok}
use Rattle.std.specs.List.{All}
use Rattle.msc_mermaid.specs.declared.fault.ImportFault.{ImportFault}
use Rattle.msc_mermaid.specs.declared.statement.Diagram.{Diagram}
use Rattle.msc_mermaid.specs.Gives.{◌>>=◌, Fails}
use Rattle.msc_scenarios.specs.Steps.{Walk}
use Rattle.msc_scenarios.specs.Laws.{walked}
use Rattle.msc_import.specs.declared.drawings.Scenario.{Scenario}
use Rattle.msc_import.specs.declared.importing.Imported.{Imported}
use Rattle.msc_import.specs.declared.plan.Manner.{Manner}
use Rattle.msc_import.specs.declared.plan.Own.{Own}
use Rattle.msc_import.specs.declared.plan.Par.TheVariants as pars
use Rattle.msc_import.specs.Drafting.{IsReadAgain}
use Rattle.msc_import.specs.Importing.{drawn_at}
use Rattle.msc_import.specs.Plans.{Plan, plans_of}

-- a scenario: its choices, its draft and the places of its events
abbrev pub with_choices : List ℕ → Imported → Scenario
with_choices given x = record { choices = given; draft = x.draft; places = x.places; spans = x.spans }

-- the scenario with these choices
unfoldable pub scenario_with : Manner → List ℕ → Diagram → List ℕ → Result Scenario ImportFault
scenario_with manner name d given = do
  x ← drawn_at manner name d given
  Ok (with_choices given x)

-- these scenarios, and then those with these choices; or the first fault of the first that has one
unfoldable pub scenarios_on : Manner → List ℕ → Diagram → List Scenario → List (List ℕ) → Result (List Scenario) ImportFault
scenarios_on manner name d done [] = Ok done
scenarios_on manner name d done (given ∷ lists) =
    scenario_with manner name d given >>= (λ s. scenarios_on manner name d (done ++ s ∷ []) lists)

-- the scenarios, if there are some
abbrev pub list_of : Result (List Scenario) ImportFault → List Scenario
list_of (Ok list) = list
list_of (Err fault) = []

-- each of them has a draft, whose text is read again as this draft
abbrev pub AreDrawn : Result (List Scenario) ImportFault → Type 0
AreDrawn (Ok list) = All (λ s. IsReadAgain s.draft) list
AreDrawn (Err fault) = ⊥

-- what the code finds: no fault if they have none, and else that fault, unless memory ran out
abbrev pub TriesAll : Result (Unit {0}) ImportFault → Result (List Scenario) ImportFault → Type 0
TriesAll (Ok u) said = AreDrawn said
TriesAll (Err e) said = Fails e said

-- these are the first scenarios with these choices, and the others are those with the choices
-- behind theirs
abbrev pub AreFirst : Manner → List ℕ → Diagram → List (List ℕ) → List Scenario → Type 0
AreFirst manner name d lists first =
    All (λ s. IsReadAgain s.draft) first
    × (scenarios_on manner name d first (drop (length first) lists) ≡ scenarios_on manner name d [] lists)

-- what lines have of a walk, where parallel branches are refused that would be drawn one below the
-- other
abbrev pub refused_plans : Own → Walk → Result (List Plan) ImportFault
refused_plans own w = plans_of (record { own = own; par = pars.Refused }) w.steps (length w.lines)

-- such branches are in the scenario with these choices
unfoldable pub shares_line : Own → Diagram → List ℕ → Bool
shares_line own d given = not (is_ok (refused_plans own (walked d given)))
