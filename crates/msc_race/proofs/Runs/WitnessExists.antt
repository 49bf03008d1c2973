-- There is a witness of each event, and its beginning goes on.
use Rattle.std.proofs.Common.{ℕ, zero, suc, ◌<◌, ◌≤◌, Bool, inl, inr, List, [], ◌∷◌, ◌++◌, length, refl, append_assoc, arith}
use Rattle.std.proofs.lemmas.Bool.{false_from_ne_true}
use Rattle.std.proofs.lemmas.List.{append-nil}
use Rattle.std.proofs.Math.Nat.{le_refl}
use Rattle.msc_chart.specs.Lists.{Steps}
use Rattle.msc_chart.specs.Charts.{IsAcyclic}
use Rattle.msc_chart.specs.Orders.{WiredChart, IsWired, Enforced, IsEnforcedOrder}
use Rattle.msc_chart.specs.Runs.{Run, MayCome, IsWhole}
use Rattle.msc_chart.specs.Witness.{MayComeFree, SomeFreeLeft, IsWitnessNext, IsWitness}
use Rattle.msc_race.proofs.Shared.{clash, count_below, find_below, occurs-left, Steps-map, Steps-push}
use Rattle.msc_chart.proofs.Left.{is_left, left_from, left_parts, left_less}
use Rattle.msc_race.proofs.Runs.Inside.{MayComeInside, SomeLeft, run_inside}
use Rattle.msc_race.proofs.Runs.Progress.{progress}
use Rattle.msc_race.proofs.Runs.Growing.{left_counted}
use Rattle.msc_race.proofs.Runs.WholeRuns.{everything, never_stuck}
use Rattle.msc_race.proofs.Runs.FreeEvents.{is_free_of}
use Rattle.msc_race.proofs.Runs.FreeFirst.{free_first}
use Rattle.msc_race.proofs.Runs.Tables.{enforced_order}
use Rattle.msc_race.proofs.Runs.Deciding.{least_of, may_decided, inside_decided}
use Rattle.msc_race.proofs.Runs.FreeRuns.{free_of_inside, inside_of_free, least_free, left_of_free, free_of_left}

-- the run goes on as the witness of e, to a whole one
abbrev CanBeCompleted : WiredChart → ℕ → List ℕ → Type 0
CanBeCompleted chart e past = (rest : List ℕ) × Steps (IsWitnessNext chart e) past rest × IsWhole chart (past ++ rest)

-- where no free event is left, none is left after a further event
still_none : (chart : WiredChart) (e : ℕ) (past xs : List ℕ) → (SomeFreeLeft chart e past → ⊥)
    → SomeFreeLeft chart e (past ++ xs) → ⊥
still_none chart e past xs none some =
    none (some.0, some.1, false_from_ne_true _ (λ there. clash (occurs-left past xs some.0 there) some.2))

module _ (chart : WiredChart) (is_wired : IsWired chart) (acyclic : IsAcyclic chart.events) (e : ℕ) where
  -- the second part, when no free event is left: the least event that may come, again and again
  witness_rest : (fuel : ℕ) (past : List ℕ)
      → count_below (is_left everything past) (length chart.events) ≤ fuel
      → Run chart past → (SomeFreeLeft chart e past → ⊥) → CanBeCompleted chart e past
  witness_rest zero past enough run none =
      elim (never_stuck chart is_wired acyclic past run) [
        | inl whole ↦ ([], tt, rw append-nil whole)
        | inr next ↦
            let some = left_counted everything past (length chart.events) next.0 next.1.event refl next.1.new in
            let h : ⊥ = omega arith in absurd h
      ]
  witness_rest (suc fuel) past enough run none =
      elim (never_stuck chart is_wired acyclic past run) [
        | inl whole ↦ ([], tt, rw append-nil whole)
        | inr next ↦
            let best = least_of (MayCome chart past) (may_decided chart past) next.0 next.1 in
            let x : ℕ = best.0 in
            let may = best.1.itself in
            let less = left_less everything past (length chart.events) x may.event refl may.new in
            let further = Steps-push (MayCome chart) past x run may in
            let none_left = still_none chart e past (x ∷ []) none in
            let more = witness_rest fuel (past ++ x ∷ []) (omega arith) further none_left in
            (x ∷ more.0, (inr (none, best.1), more.1), rw append_assoc at more.2)
      ]

  -- the same, however many events are left
  witness_end : (past : List ℕ) → Run chart past → (SomeFreeLeft chart e past → ⊥)
      → CanBeCompleted chart e past
  witness_end past run none =
      witness_rest (count_below (is_left everything past) (length chart.events)) past (le_refl _) run none

  module _ (order : ℕ → ℕ → Bool) (told : IsEnforcedOrder chart order) (below : e < length chart.events) where
    -- the test for the events that are free of e
    abbrev free : ℕ → Bool
    free = is_free_of chart order e

    -- the first part, while free events are left: the least of them that may come, again and again
    witness_from : (fuel : ℕ) (past : List ℕ)
        → count_below (is_left free past) (length chart.events) ≤ fuel
        → Steps (MayComeInside chart free) [] past → CanBeCompleted chart e past
    witness_from zero past enough steps =
        witness_end past (run_inside chart free past steps)
        (λ some_free.
        let some = left_of_free chart order told e below past some_free in
        let counted = left_counted free past (length chart.events) some.0 some.1 some.2 some.3 in
        omega arith)
    witness_from (suc fuel) past enough steps =
        elim (find_below (is_left free past) (length chart.events)) [
          | inr none ↦ witness_end past (run_inside chart free past steps)
              (λ some_free.
              let some = left_of_free chart order told e below past some_free in
              clash (left_from free past some.0 some.2 some.3) (none some.0 some.1))
          | inl found ↦
              let left = left_parts free past found.0 found.2 in
              let some : SomeLeft chart free past = (found.0, found.1, left.0, left.1) in
              let can_go = free_first chart is_wired order told e below acyclic in
              let next = progress chart is_wired free (Enforced chart) can_go past steps some in
              let best = least_of (MayComeInside chart free past) (inside_decided chart past free) next.0 next.1 in
              let x : ℕ = best.0 in
              let one = best.1.itself in
              let less = left_less free past (length chart.events) x one.may.event one.member one.may.new in
              let further = Steps-push (MayComeInside chart free) past x steps one in
              let more = witness_from fuel (past ++ x ∷ []) (omega arith) further in
              let some_free = free_of_left chart order told e below past some in
              let least = least_free chart order told e below past x best.1 in
              (x ∷ more.0, (inl (some_free, least), more.1), rw append_assoc at more.2)
        ]

  -- There is a witness.
  pub witness_exists : e < length chart.events → (events : List ℕ) × IsWitness chart e events
  witness_exists below =
      let table = enforced_order chart is_wired in
      let fuel : ℕ = count_below (is_left (is_free_of chart table.0 e) []) (length chart.events) in
      let made = witness_from table.0 table.1 below fuel [] (le_refl fuel) tt in
      (made.0, (made.1, made.2))

  -- The beginning of a witness after which a free event is left has only steps to free events.
  free_steps : (past xs : List ℕ) → Steps (IsWitnessNext chart e) past xs
      → SomeFreeLeft chart e (past ++ xs) → Steps (MayComeFree chart e) past xs
  free_steps past [] h some = tt
  free_steps past (x ∷ xs) h some =
      let later : SomeFreeLeft chart e ((past ++ x ∷ []) ++ xs) = rw append_assoc some in
      let one : MayComeFree chart e past x =
      elim h.0 [ inl a ↦ a.1.itself | inr b ↦ absurd (still_none chart e past (x ∷ xs) b.0 some) ] in
      (one, free_steps (past ++ x ∷ []) xs h.1 later)

  -- While a free event is left, it goes on to one.
  pub witness_goes_on : e < length chart.events → (past : List ℕ)
      → Steps (IsWitnessNext chart e) [] past
      → SomeFreeLeft chart e past → (x : ℕ) × MayComeFree chart e past x
  witness_goes_on below past steps some =
      let table = enforced_order chart is_wired in
      let set : ℕ → Bool = is_free_of chart table.0 e in
      let inside =
      Steps-map (MayComeFree chart e) (MayComeInside chart set) (inside_of_free chart table.0 table.1 e below) [] past
      (free_steps [] past steps some) in
      let can_go = free_first chart is_wired table.0 table.1 e below acyclic in
      let some_left = left_of_free chart table.0 table.1 e below past some in
      let next = progress chart is_wired set (Enforced chart) can_go past inside some_left in
      (next.0, free_of_inside chart table.0 table.1 e below past next.0 next.1)
