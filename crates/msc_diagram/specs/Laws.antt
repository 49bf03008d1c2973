-- Laws of the numbers of places of a diagram's scenarios.
use Rattle.std.specs.Prelude.{◌≡◌, ◌+◌, false, List, unwrap_or}
use Rattle.msc_diagram.specs.Counts.{place_counts}
use Rattle.msc_diagram.specs.Scenarios.{AreCases, Case}
use Rattle.msc_diagram.specs.declared.check.ScenarioCheck.{ScenarioCheck}
use Rattle.msc_diagram.specs.declared.scenario.Scenario.{Scenario}

-- without `closest` there are as many places as allowed, accepted and listed ones together
abbrev pub PlacesAddUp : Type 0
PlacesAddUp =
    (k : ScenarioCheck) (scenarios : List Scenario) (cases : List Case) → AreCases k scenarios cases → k.options.closest ≡ false
    → (place_counts k cases).races
    ≡ unwrap_or (place_counts k cases).allowed 0 + (unwrap_or (place_counts k cases).accepted 0 + (place_counts k cases).listed)
