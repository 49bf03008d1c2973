-- Races of some events, and those of them that pass a test.
use Rattle.std.proofs.Common.{◌≡◌, ◌≢◌, ℕ, ◌<◌, Bool, false, nat_eq, List, get_or, length, refl, ◌∙◌, arith}
use Rattle.std.specs.List.{filter}
use Rattle.std.proofs.lemmas.Bool.{eq-eqb}
use Rattle.std.proofs.lemmas.Option.{slice_get-get_or}
use Rattle.msc_chart.proofs.ListLemmas.{clash}
use Rattle.msc_race.proofs.Listing.DrawnPairs.{list_of_races}
use Rattle.msc_race.specs.Views.{races_of, wiring_of, AreRacesOf}
use Rattle.msc_race.specs.Wired.{EnforcedChart, IsEnforced}
use Rattle.msc_reason.proofs.Filtered.{filter_parts}
use Rattle.msc_race.proofs.Listing.Raced.{race_events}

-- both events of a race are among so many
pub races_known : (e : EnforcedChart) (races : List (ℕ × ℕ)) (m : ℕ) → AreRacesOf e races → length e.chart.events ≡ m
    → (k : ℕ) (d : ℕ × ℕ) → k < length races → ((get_or races k d).0 < m) × ((get_or races k d).1 < m)
races_known e races m are same k d within =
    let p : ℕ × ℕ = get_or races k d in
    let known = race_events e p.0 p.1 (are p.0 p.1 (k, slice_get-get_or races k d within)) in
    (omega (arith, known.0, same), omega (arith, known.1, same))

-- those of some races that pass a test are races
pub kept_are : (e : EnforcedChart) (test : ℕ × ℕ → Bool) (races : List (ℕ × ℕ)) → AreRacesOf e races → AreRacesOf e (filter test races)
kept_are e test races are x y there = are x y (filter_parts test races (x, y) there).0

-- all races are
pub all_are_races : (e : EnforcedChart) → IsEnforced e → AreRacesOf e (races_of e)
all_are_races e is x y there =
    let list = list_of_races (wiring_of e) e.order is.enforced (races_of e) refl in
    (list.races x y).1 there

-- a list that is not empty has some
pub has_some : (list : List (ℕ × ℕ)) (empty : Bool) → empty ≡ nat_eq (length list) 0 → empty ≡ false → 0 < length list
has_some list empty said is =
    let other : length list ≢ 0 = λ none. clash (said ∙ eq-eqb _ _ none) is in
    omega (arith, other)
