-- The races of scenarios that are listed first there: of those with the same places, the ones of the
-- first scenario.
use Rattle.std.specs.Prelude.{◌≡◌, ℕ, List, [], ◌∷◌, length}
use Rattle.msc_diagram.specs.Places.{above_with}
use Rattle.msc_diagram.specs.Scenarios.{asked_of, new_in, places_from, AreCases, Case, IsCase}
use Rattle.msc_diagram.specs.declared.check.ScenarioCheck.{ScenarioCheck}
use Rattle.msc_diagram.specs.declared.place.EventPlace.{EventPlace}
use Rattle.msc_diagram.specs.declared.scenario.Scenario.{Scenario}

-- the new races of each of these scenarios, below races of these places
abbrev pub new_lists : ScenarioCheck → List (EventPlace × EventPlace) → List Case → List (List (ℕ × ℕ))
new_lists k above [] = []
new_lists k above (c ∷ cases) = new_in k above c ∷ new_lists k (above_with c.scenario above (asked_of k c)) cases

-- These are the races of a scenario that are listed first there, below races of these places; with them,
-- the races have those places.
pub record IsNewIn (s : Scenario) (k : ScenarioCheck) (above with_them : List (EventPlace × EventPlace)) (new : List (ℕ × ℕ)) : Type 0 where
  pub known : Case
  pub scenario : known.scenario ≡ s
  pub is : IsCase k known
  pub new_is : new ≡ new_in k above known
  pub with_them_is : with_them ≡ above_with s above (asked_of k known)

-- These are, for each scenario, the races that are listed first there.
pub record AreNewLists (scenarios : List Scenario) (k : ScenarioCheck) (lists : List (List (ℕ × ℕ))) : Type 0 where
  pub cases : List Case
  pub are : AreCases k scenarios cases
  pub lists_are : lists ≡ new_lists k [] cases
  pub each : length lists ≡ length scenarios

-- the same so far, and the places of these races
pub record AreNewSoFar (scenarios : List Scenario) (k : ScenarioCheck) (above : List (EventPlace × EventPlace)) (lists : List (List (ℕ × ℕ))) : Type 0 where
  pub cases : List Case
  pub are : AreCases k scenarios cases
  pub lists_are : lists ≡ new_lists k [] cases
  pub above_is : above ≡ places_from (asked_of k) [] cases
