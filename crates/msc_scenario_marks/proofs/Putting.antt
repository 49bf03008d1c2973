-- Which races are accepted: put into a set race by race.
use Rattle.std.proofs.Common.{◌≡◌, ℕ, ◌+◌, ◌<◌, ◌≤◌, Bool, true, false, ◌&&◌, ◌||◌, nat_eq, List, length, get_or, take, refl, sym, ap, ap₂, ◌∙◌}
use Rattle.std.specs.List.{list_any}
use Rattle.std.proofs.lemmas.Bool.{and_from, and_parts, eq-eqb, eqb-true, false_from_ne_true}
use Rattle.std.proofs.lemmas.List.{take_all}
use Rattle.std.proofs.lemmas.List.Folds.{list_any_more}
use Rattle.std.proofs.lemmas.Option.{slice_get-get_or}
use Rattle.msc_arrow_marks.specs.Accepting.{Acceptance}
use Rattle.msc_chart.specs.Lists.{Occurs}
use Rattle.msc_chart.proofs.ListLemmas.{by_test, clash}
use Rattle.msc_race.proofs.Listing.DrawnPairs.{list_of_races}
use Rattle.msc_race.proofs.Listing.Raced.{race_events}
use Rattle.msc_race.specs.Views.{races_of, wiring_of}
use Rattle.msc_race.specs.Wired.{EnforcedChart, IsEnforced}
use Rattle.msc_reason.proofs.Filtered.{any_in, any_parts}
use Rattle.msc_reason.specs.PairTables.{has_pair, PairTable}
use Rattle.msc_scenario_marks.specs.Accepting.{accepts_race, is_put}

or_joined : (a b c : Bool) → ((a || b) || c) ≡ (a || (b || c))
or_joined true b c = refl
or_joined false b c = refl

-- both events of a race are events of the chart
pub known_at : (e : EnforcedChart) → IsEnforced e → (races : List (ℕ × ℕ)) → races ≡ races_of e → (i : ℕ) → i < length races
    → ((get_or races i (0, 0)).0 < length e.chart.events) × ((get_or races i (0, 0)).1 < length e.chart.events)
known_at e is races same i inside =
    let p : ℕ × ℕ = get_or races i (0, 0) in
    let list = list_of_races (wiring_of e) e.order is.enforced races same in
    race_events e p.0 p.1 ((list.races p.0 p.1).1 (i, slice_get-get_or races i (0, 0) inside))

module _ (a : Acceptance) (arrows : List ℕ) where
  -- the pair is among these races, and accepted
  abbrev pub some_put : List (ℕ × ℕ) → ℕ → ℕ → Bool
  some_put races x y = list_any (is_put a arrows x y) races

  -- of the races below i those that are accepted are put
  abbrev pub ArePut : PairTable → List (ℕ × ℕ) → ℕ → Type 0
  ArePut now races i = (x y : ℕ) → has_pair now x y ≡ some_put (take i races) x y

  -- one more
  pub put_more : (now more : PairTable) (races : List (ℕ × ℕ)) (i : ℕ) (d : ℕ × ℕ) → i < length races
      → ArePut now races i
      → ((x y : ℕ) → has_pair more x y ≡ (has_pair now x y || is_put a arrows x y (get_or races i d)))
      → ArePut more races (i + 1)
  put_more now more races i d inside so_far one x y =
      one x y ∙ ap (λ b. b || is_put a arrows x y (get_or races i d)) (so_far x y)
      ∙ sym (list_any_more (is_put a arrows x y) races i d inside)

  -- of a race among them it is put whether it is accepted
  put_exactly : (races : List (ℕ × ℕ)) (p : ℕ × ℕ) → Occurs races p → some_put races p.0 p.1 ≡ accepts_race a arrows p
  put_exactly races p there =
      let test = is_put a arrows p.0 p.1 in
      by_test (accepts_race a arrows p)
      (λ yes. any_in test races p there (and_from _ _ (and_from _ _ (eq-eqb p.0 p.0 refl) (eq-eqb p.1 p.1 refl)) yes) ∙ sym yes)
      (λ no. false_from_ne_true _ (λ some.
      let q = any_parts test races some in
      let both = and_parts (nat_eq p.0 q.0.0 && nat_eq p.1 q.0.1) (accepts_race a arrows q.0) q.2 in
      let same = and_parts (nat_eq p.0 q.0.0) (nat_eq p.1 q.0.1) both.0 in
      let other : accepts_race a arrows p ≡ accepts_race a arrows q.0 = ap₂ (λ (x y : ℕ). accepts_race a arrows (x, y)) (eqb-true _ _ same.0) (eqb-true _ _ same.1) in
      clash (other ∙ both.1) no) ∙ sym no)

  -- behind the last race that is so for all
  pub all_put : (now : PairTable) (races : List (ℕ × ℕ)) (i : ℕ) → length races ≤ i → ArePut now races i
      → (p : ℕ × ℕ) → Occurs races p → has_pair now p.0 p.1 ≡ accepts_race a arrows p
  all_put now races i past h p there =
      h p.0 p.1 ∙ ap (λ l. some_put l p.0 p.1) (take_all i races past) ∙ put_exactly races p there
