-- In how many scenarios races count, by their places.
use Rattle.std.proofs.Common.{◌≡◌, ℕ, ◌+◌, Bool, true, false, not, ◌&&◌, ◌||◌, cond, List, [], ◌∷◌, ◌++◌, map, refl, sym, ap, ◌∙◌, arith}
use Rattle.std.specs.Prelude.{count_by, Option, Some, unwrap_or}
use Rattle.std.specs.Map.{lookup}
use Rattle.std.specs.List.{list_any}
use Rattle.std.proofs.Math.Bool.{or-false}
use Rattle.std.proofs.lemmas.List.{append-nil}
use Rattle.std.proofs.lemmas.List.Folds.{list_any-append}
use Rattle.std.proofs.lemmas.List.Sums.{sum_by-append}
use Rattle.msc_chart.proofs.ListLemmas.{by_test}
use Rattle.msc_diagram.proofs.Adding.{places_equiv}
use Rattle.msc_diagram.proofs.Fresh.{above_first}
use Rattle.msc_diagram.specs.Counts.{counted_in, counts_at}
use Rattle.msc_diagram.specs.Places.{above_with, fresh, places_in, same_places}
use Rattle.msc_diagram.specs.Scenarios.{Case}
use Rattle.msc_diagram.specs.Tallies.{tally_at}
use Rattle.msc_diagram.specs.declared.check.ScenarioCheck.{ScenarioCheck}
use Rattle.msc_diagram.specs.declared.place.EventPlace.{EventPlace}
use Rattle.msc_diagram.specs.declared.scenario.Scenario.{Scenario}

module _ (s : Scenario) (p : EventPlace × EventPlace) where
  -- places are among some
  abbrev among : List (EventPlace × EventPlace) → Bool
  among l = list_any (same_places p) l

  -- how often they stand there
  abbrev times : List (EventPlace × EventPlace) → ℕ
  times l = count_by (same_places p) l

  -- one race more, of which the places were not seen: they are these, or others
  one_more : (above : List (EventPlace × EventPlace)) (q : EventPlace × EventPlace) (rest : Bool) → list_any (same_places q) above ≡ false
      → times (above ++ q ∷ []) + cond (not (among (above ++ q ∷ [])) && rest) 1 0
      ≡ times above + cond (not (among above) && (same_places p q || rest)) 1 0
  one_more above q rest new =
      let sum = sum_by-append (λ (x : EventPlace × EventPlace). cond (same_places p x) 1 0) above (q ∷ []) in
      let any = list_any-append (same_places p) above (q ∷ []) ∙ ap (λ (b : Bool). among above || b) (or-false (same_places p q)) in
      by_test (same_places p q)
      (λ here.
      let unseen : among above ≡ false = ap (λ (t : EventPlace × EventPlace → Bool). list_any t above) (λ j x. places_equiv.congr p q x here j) ∙ new in
      let seen : among (above ++ q ∷ []) ≡ true = any ∙ ap (λ (b : Bool). among above || b) here ∙ ap (λ (b : Bool). b || true) unseen in
      let one = ap {B = ℕ} (λ (b : Bool). cond b 1 0) here in
      rw (seen, unseen, here) (omega (arith, sum, one)))
      (λ other.
      let same : among (above ++ q ∷ []) ≡ among above = any ∙ ap (λ (b : Bool). among above || b) other ∙ or-false (among above) in
      let none = ap {B = ℕ} (λ (b : Bool). cond b 1 0) other in
      rw (same, other) (omega (arith, sum, none)))

  -- where the places of a race were seen, it adds nothing
  none_more : (above : List (EventPlace × EventPlace)) (q : EventPlace × EventPlace) (rest : Bool) → list_any (same_places q) above ≡ true
      → (not (among above) && rest) ≡ (not (among above) && (same_places p q || rest))
  none_more above q rest old = by_test (same_places p q)
      (λ here.
      let seen : among above ≡ true = ap (λ (t : EventPlace × EventPlace → Bool). list_any t above) (λ j x. places_equiv.congr p q x here j) ∙ old in
      rw seen refl)
      (λ other. rw other refl)

  -- behind others, they stand once more if a race there is new
  times_with : (above : List (EventPlace × EventPlace)) (pairs : List (ℕ × ℕ))
      → times (above_with s above pairs) ≡ times above + cond (not (among above) && among (map (places_in s) pairs)) 1 0
  times_with above [] = by_test (among above)
      (λ seen. rw seen (plain above))
      (λ unseen. rw unseen (plain above))
    where
      plain : (above : List (EventPlace × EventPlace)) → times (above ++ []) ≡ times above + 0
      plain above = let same = ap times (append-nil above) in omega (arith, same)
  times_with above (r ∷ pairs) = by_test (list_any (same_places (places_in s r)) above)
      (λ old. rw old (times_with above pairs ∙ ap {B = ℕ} (λ (b : Bool). times above + cond b 1 0) (none_more above (places_in s r) (among (map (places_in s) pairs)) old)))
      (λ new. rw new (ap times (sym (above_first s above r (fresh s (above ++ places_in s r ∷ []) pairs)))
      ∙ times_with (above ++ places_in s r ∷ []) pairs ∙ one_more above (places_in s r) (among (map (places_in s) pairs)) new))

  -- so they stand once among the places of races, if one is there
  pub times_once : (pairs : List (ℕ × ℕ)) → times (above_with s [] pairs) ≡ cond (among (map (places_in s) pairs)) 1 0
  times_once pairs = let sum = times_with [] pairs in omega (arith, sum)

-- where one more is put at some places, there is one more at these and as many at others
pub tally_more : (old new : List ((EventPlace × EventPlace) × ℕ)) (q p : EventPlace × EventPlace) (count : ℕ)
    → ((x : EventPlace × EventPlace) → lookup (same_places x) new ≡ cond (same_places q x) (Some count) (lookup (same_places x) old))
    → count ≡ tally_at old q + 1 → tally_at new p ≡ tally_at old p + cond (same_places p q) 1 0
tally_more old new q p count put is = by_test (same_places q p)
    (λ here.
    let back = places_equiv.symm p q ∙ here in
    let at : tally_at new p ≡ count = ap (λ (o : Option ℕ). unwrap_or o 0) (put p ∙ ap (λ (b : Bool). cond b (Some count) (lookup (same_places p) old)) here) in
    let same : tally_at old q ≡ tally_at old p = ap (λ (t : EventPlace × EventPlace → Bool). unwrap_or (lookup t old) 0) (λ j x. places_equiv.congr q p x here j) in
    let one = ap {B = ℕ} (λ (b : Bool). cond b 1 0) back in
    omega (arith, at, is, same, one))
    (λ other.
    let back = places_equiv.symm p q ∙ other in
    let at : tally_at new p ≡ tally_at old p = ap (λ (o : Option ℕ). unwrap_or o 0) (put p ∙ ap (λ (b : Bool). cond b (Some count) (lookup (same_places p) old)) other) in
    let none = ap {B = ℕ} (λ (b : Bool). cond b 1 0) back in
    omega (arith, at, none))

-- one scenario more
pub counted_more : (q : ScenarioCheck) (cases : List Case) (c : Case) (p : EventPlace × EventPlace)
    → counted_in q (cases ++ c ∷ []) p ≡ counted_in q cases p + cond (counts_at q p c) 1 0
counted_more q cases c p =
    let both = sum_by-append (λ (x : Case). cond (counts_at q p x) 1 0) cases (c ∷ []) in
    omega (arith, both)
