-- Which races are accepted: put into a set race by race, and event by event.
use Rattle.std.proofs.Common.{◌≡◌, ℕ, ◌+◌, ◌<◌, ◌≤◌, false, ◌&&◌, ◌||◌, nat_eq, List, length, get_or, take, refl, sym, ap, ap₂, ◌∙◌}
use Rattle.std.specs.List.{list_any}
use Rattle.std.proofs.lemmas.Bool.{and_from, and_parts, eq-eqb, eqb-true, false_from_ne_true}
use Rattle.std.proofs.lemmas.List.{take_all}
use Rattle.std.proofs.lemmas.List.Folds.{list_any-append, list_any_more}
use Rattle.msc_chart.specs.Lists.{Occurs}
use Rattle.msc_chart.proofs.ListLemmas.{by_test, clash}
use Rattle.msc_race.specs.Views.{races_from}
use Rattle.msc_race.specs.Wired.{EnforcedChart}
use Rattle.msc_race.proofs.Listing.Raced.{no_races_below, races_below, races_below_more}
use Rattle.msc_reason.proofs.Filtered.{any_in, any_parts}
use Rattle.msc_reason.specs.PairTables.{has_pair, PairTable}
use Rattle.msc_mark.specs.Accepting.{Acceptance, accepts_race}
use Rattle.msc_mark.specs.Kept.{accepts_pair, accepts_some}
use Rattle.msc_mark.proofs.Noting.{or_joined}

module _ (a : Acceptance) where
  -- of the races below i those that are accepted are put
  abbrev pub ArePut : PairTable → PairTable → List (ℕ × ℕ) → ℕ → Type 0
  ArePut old now races i =
      (x y : ℕ) → has_pair now x y ≡ (has_pair old x y || list_any (accepts_pair a x y) (take i races))

  -- one more
  pub put_more : (old now more : PairTable) (races : List (ℕ × ℕ)) (i : ℕ) (d : ℕ × ℕ) → i < length races
      → ArePut old now races i
      → ((x y : ℕ) → has_pair more x y ≡ (has_pair now x y || accepts_pair a x y (get_or races i d)))
      → ArePut old more races (i + 1)
  put_more old now more races i d inside so_far one x y =
      one x y ∙ ap (λ b. b || accepts_pair a x y (get_or races i d)) (so_far x y)
      ∙ or_joined (has_pair old x y) (list_any (accepts_pair a x y) (take i races)) (accepts_pair a x y (get_or races i d))
      ∙ ap (λ b. has_pair old x y || b) (sym (list_any_more (accepts_pair a x y) races i d inside))

  -- all are put behind the last one
  pub put_all : (old now : PairTable) (races : List (ℕ × ℕ)) (i : ℕ) → length races ≤ i → ArePut old now races i
      → (x y : ℕ) → has_pair now x y ≡ (has_pair old x y || accepts_some a races x y)
  unfolding accepts_some
  put_all old now races i past h x y =
      h x y ∙ ap (λ l. has_pair old x y || list_any (accepts_pair a x y) l) (take_all i races past)

  -- of no races none is
  pub put_none : (e : EnforcedChart) (now : PairTable) → ((x y : ℕ) → has_pair now x y ≡ false)
      → (x y : ℕ) → has_pair now x y ≡ accepts_some a (races_below e 0) x y
  unfolding accepts_some
  put_none e now none x y = none x y ∙ ap (λ l. list_any (accepts_pair a x y) l) (sym (no_races_below e))

  -- with the races of one event more
  pub put_event : (e : EnforcedChart) (k : ℕ) (now more : PairTable) (list : List (ℕ × ℕ)) → list ≡ races_from e k
      → ((x y : ℕ) → has_pair now x y ≡ accepts_some a (races_below e k) x y)
      → ((x y : ℕ) → has_pair more x y ≡ (has_pair now x y || accepts_some a list x y))
      → (x y : ℕ) → has_pair more x y ≡ accepts_some a (races_below e (k + 1)) x y
  unfolding accepts_some
  put_event e k now more list is so_far one x y =
      let test = accepts_pair a x y in
      one x y ∙ ap (λ b. b || list_any test list) (so_far x y) ∙ ap (λ l. list_any test (races_below e k) || list_any test l) is
      ∙ sym (list_any-append test (races_below e k) (races_from e k)) ∙ ap (λ l. list_any test l) (sym (races_below_more e k))

  -- of a race among them it is put whether it is accepted
  pub put_exactly : (races : List (ℕ × ℕ)) (p : ℕ × ℕ) → Occurs races p → accepts_some a races p.0 p.1 ≡ accepts_race a p
  unfolding accepts_some
  put_exactly races p there =
      let test = accepts_pair a p.0 p.1 in
      by_test (accepts_race a p)
      (λ yes. any_in test races p there (and_from _ _ (and_from _ _ (eq-eqb p.0 p.0 refl) (eq-eqb p.1 p.1 refl)) yes) ∙ sym yes)
      (λ no. false_from_ne_true _ (λ some.
      let q = any_parts test races some in
      let both = and_parts (nat_eq p.0 q.0.0 && nat_eq p.1 q.0.1) (accepts_race a q.0) q.2 in
      let same = and_parts (nat_eq p.0 q.0.0) (nat_eq p.1 q.0.1) both.0 in
      let other : accepts_race a p ≡ accepts_race a q.0 = ap₂ (λ (x y : ℕ). accepts_race a (x, y)) (eqb-true _ _ same.0) (eqb-true _ _ same.1) in
      clash (other ∙ both.1) no) ∙ sym no)
