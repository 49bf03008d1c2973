-- All races of a chart, by computing: each drawn pair is enforced, or it is a race.
use Rattle.std.proofs.Common.{◌≡◌, ℕ, zero, suc, Bool, true, false, ◌&&◌, ◌||◌, not, inl, inr, List, [], ◌∷◌, eqb, length, Some, ap, subst}
use Rattle.std.proofs.lemmas.Bool.{eqb-true, and_parts, and_cases, or_cases, not-false}
use Rattle.msc_chart.specs.Charts.{before}
use Rattle.msc_chart.specs.Lists.{Occurs}
use Rattle.msc_chart.specs.Orders.{WiredChart, IsWired, Enforced}
use Rattle.msc_race.specs.Samples.{IsReversal}
use Rattle.msc_race.specs.Races.{AreRaces}
use Rattle.msc_race.proofs.Shared.{clash, any_below, none_of_any}
use Rattle.msc_race.proofs.Runs.EventLemmas.{before_parts}
use Rattle.msc_race.proofs.Runs.RaceLaws.{race_from_run}

-- the pair is in the list
abbrev has_pair : List (ℕ × ℕ) → ℕ → ℕ → Bool
has_pair [] e f = false
has_pair (p ∷ ps) e f = (eqb p.0 e && eqb p.1 f) || has_pair ps e f

-- the test says so
occurs_from : (pairs : List (ℕ × ℕ)) (e f : ℕ) → has_pair pairs e f ≡ true → Occurs pairs (e, f)
occurs_from [] e f h = cc
occurs_from (p ∷ ps) e f h =
    elim (or_cases _ _ h) [
      | inl here ↦
          let both = and_parts _ _ here in
          let first : p.0 ≡ e = eqb-true _ _ both.0 in
          let second : p.1 ≡ f = eqb-true _ _ both.1 in
          let same : p ≡ (e, f) = λ k. (first k, second k) in
          (zero, ap Some same)
      | inr later ↦ let found = occurs_from ps e f later in (suc found.0, found.1)
    ]

-- each pair of the list is so related
abbrev pub AreAll : (ℕ → ℕ → Type 0) → List (ℕ × ℕ) → Type 0
AreAll R [] = Unit {0}
AreAll R (p ∷ ps) = R p.0 p.1 × AreAll R ps

-- so is what occurs in it
all_at : (R : ℕ → ℕ → Type 0) (pairs : List (ℕ × ℕ)) → AreAll R pairs → (e f : ℕ)
    → Occurs pairs (e, f) → R e f
all_at R [] all e f (j, h) = cc
all_at R (p ∷ ps) all e f (zero, h) = let same : p ≡ (e, f) = cc in subst (λ (q : ℕ × ℕ). R q.0 q.1) same all.0
all_at R (p ∷ ps) all e f (suc j, h) = all_at R ps all.1 e f (j, h)

module _ (chart : WiredChart) where
  -- a run shows that the drawn pair is a race
  abbrev pub IsShown : ℕ → ℕ → Type 0
  IsShown e f = (before chart.events e f ≡ true) × ((events : List ℕ) × IsReversal chart events e f)

  -- a drawn pair is in neither list
  abbrev pub is_left_out : List (ℕ × ℕ) → List (ℕ × ℕ) → Bool
  is_left_out races enforced =
      let n : ℕ = length chart.events in
      any_below (λ e. any_below (λ f. before chart.events e f && not (has_pair races e f || has_pair enforced e f)) n) n

  -- Where runs show each pair of one list, the pairs of another are enforced, and each drawn pair is
  -- in one of them, the first has all races.
  pub races_from : IsWired chart → (races enforced : List (ℕ × ℕ)) → AreAll IsShown races
      → AreAll (Enforced chart) enforced
      → is_left_out races enforced ≡ false → AreRaces chart races
  races_from is_wired races enforced shown derived none e f = (
    λ race.
        let facts = before_parts chart.events e f race.0 in
        elim (and_cases _ _ (none_of_any _ _ (none_of_any _ _ none e facts.0) f facts.1)) [
          | inl undrawn ↦ clash race.0 undrawn
          | inr listed ↦ elim (or_cases _ _ (not-false _ listed)) [
            | inl there ↦ occurs_from races e f there
            | inr other ↦
                absurd (race.1 (all_at (Enforced chart) enforced derived e f (occurs_from enforced e f other)))
          ]
        ],
    λ there.
        let found = all_at IsShown races shown e f there in
        race_from_run chart is_wired found.1.0 found.1.1.run e f found.0 found.1.1.reverses,
  )
