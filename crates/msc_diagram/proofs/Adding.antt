-- Each place of a race is listed or is allowed, and none is both.
use Rattle.std.proofs.Common.{◌≡◌, ℕ, ◌+◌, Bool, true, false, not, ◌&&◌, ◌||◌, cond, nat_eq, List, [], ◌∷◌, ◌++◌, Some, None, length, unwrap_or, refl, sym, ap, ap₂, ◌∙◌, subst, arith}
use Rattle.std.specs.Cmp.{bool_eq_equiv, IsEquivalence}
use Rattle.std.specs.Prelude.{is_some}
use Rattle.std.specs.List.{filter, list_any, All, IsDistinct}
use Rattle.std.specs.Set.{is_member}
use Rattle.std.proofs.Math.Bool.{or-false, or_assoc}
use Rattle.std.proofs.lemmas.Bool.{and_from, and_parts}
use Rattle.std.proofs.lemmas.Cmp.{nat_eq_equiv}
use Rattle.std.proofs.lemmas.List.{append-nil}
use Rattle.std.proofs.lemmas.List.Filters.{length-filter_both}
use Rattle.std.proofs.lemmas.List.Folds.{list_any-append}
use Rattle.std.proofs.lemmas.List.Sums.{length-filter}
use Rattle.std.proofs.lemmas.Map.Keys.{IsDistinct-push}
use Rattle.std.proofs.lemmas.Map.Made.{length-IsIntersection}
use mathlib.Core.Bool.{beq}
use Rattle.msc_chart.proofs.ListLemmas.{by_test}
use Rattle.msc_chart.specs.Lists.{Occurs}
use Rattle.msc_race.specs.Views.{races_of}
use Rattle.msc_reason.proofs.Filtered.{any_in, any_parts, filter_from, filter_parts}
use Rattle.msc_reason.proofs.Marking.{all_at}
use Rattle.msc_reason.specs.Counting.{counts}
use Rattle.msc_reason.specs.Kinds.{has_kind, is_empty}
use Rattle.msc_reason.specs.LeftOut.{is_accepted, of_kinds}
use Rattle.msc_reason.specs.Marked.{cause_in, kind_in}
use Rattle.msc_reason.specs.declared.kinds.KindSet.{KindSet}
use Rattle.msc_diagram.proofs.Fresh.{above_first}
use Rattle.msc_diagram.proofs.Above.{all_named, plain_left, plain_listed, same_places_from}
use Rattle.msc_diagram.specs.Counts.{counting_places, listed_places, named_places, place_counts, race_places, without}
use Rattle.msc_diagram.specs.Laws.{PlacesAddUp}
use Rattle.msc_diagram.specs.Places.{above_with, fresh, places_in, same_place, same_places}
use Rattle.msc_diagram.specs.Scenarios.{all_of, asked_of, counting_of, judged_in, named_of, places_from, Case, IsCase}
use Rattle.msc_diagram.specs.declared.check.ScenarioCheck.{ScenarioCheck}
use Rattle.msc_diagram.specs.declared.place.EventPlace.{EventPlace}
use Rattle.msc_diagram.specs.declared.scenario.Scenario.{Scenario}

-- two tests of parts that are equivalences are one together
both_equiv : {K A B : Type 0} (f : K → A) (g : K → B) (R : A → A → Bool) (S : B → B → Bool) → IsEquivalence R → IsEquivalence S
    → IsEquivalence (λ (x y : K). R (f x) (f y) && S (g x) (g y))
both_equiv f g R S r s = record {
  refl = λ x. and_from (R (f x) (f x)) (S (g x) (g x)) (r.refl (f x)) (s.refl (g x));
  symm = λ x y. ap₂ (λ (a b : Bool). a && b) (r.symm (f x) (f y)) (s.symm (g x) (g y));
  congr = λ x y z same.
      let parts = and_parts (R (f x) (f y)) (S (g x) (g y)) same in
      ap₂ (λ (a b : Bool). a && b) (r.congr (f x) (f y) (f z) parts.0) (s.congr (g x) (g y) (g z) parts.1);
}

-- so to have one place is one
place_equiv : IsEquivalence same_place
place_equiv =
    both_equiv (λ (p : EventPlace). p.instance) (λ (p : EventPlace). p) nat_eq (λ (a b : EventPlace). beq a.acts b.acts && (nat_eq a.line b.line && nat_eq a.column b.column)) nat_eq_equiv
    (both_equiv (λ (p : EventPlace). p.acts) (λ (p : EventPlace). p) beq (λ (a b : EventPlace). nat_eq a.line b.line && nat_eq a.column b.column) bool_eq_equiv
    (both_equiv (λ (p : EventPlace). p.line) (λ (p : EventPlace). p.column) nat_eq nat_eq nat_eq_equiv nat_eq_equiv))

pub places_equiv : IsEquivalence same_places
places_equiv = both_equiv (λ (p : EventPlace × EventPlace). p.0) (λ (p : EventPlace × EventPlace). p.1) same_place same_place place_equiv place_equiv

-- a race of a scenario is at these places
abbrev at_places : Scenario → List (ℕ × ℕ) → EventPlace × EventPlace → Bool
at_places s pairs q = list_any (λ p. same_places q (places_in s p)) pairs

module _ (s : Scenario) where
  -- one race more, by whether its places were seen
  seen_or : (above : List (EventPlace × EventPlace)) (p : ℕ × ℕ) (pairs : List (ℕ × ℕ)) (P : List (EventPlace × EventPlace) → Type 0)
      → (list_any (same_places (places_in s p)) above ≡ true → P (above_with s above pairs))
      → (list_any (same_places (places_in s p)) above ≡ false → P (above_with s (above ++ places_in s p ∷ []) pairs))
      → P (above_with s above (p ∷ pairs))
  seen_or above p pairs P old new = by_test (list_any (same_places (places_in s p)) above)
      (λ is. rw is (old is))
      (λ is. rw is (subst P (above_first s above p (fresh s (above ++ places_in s p ∷ []) pairs)) (new is)))

  -- no place stands twice
  distinct_with : (above : List (EventPlace × EventPlace)) (pairs : List (ℕ × ℕ)) → IsDistinct same_places above → IsDistinct same_places (above_with s above pairs)
  distinct_with above [] once = subst (IsDistinct same_places) (sym (append-nil above)) once
  distinct_with above (p ∷ pairs) once = seen_or above p pairs (IsDistinct same_places)
      (λ is. distinct_with above pairs once)
      (λ is. distinct_with (above ++ places_in s p ∷ []) pairs (IsDistinct-push places_equiv above (places_in s p) once is))

  -- what is there was there, or is that of a race
  member_with : (above : List (EventPlace × EventPlace)) (pairs : List (ℕ × ℕ)) (q : EventPlace × EventPlace)
      → is_member same_places (above_with s above pairs) q ≡ (is_member same_places above q || at_places s pairs q)
  member_with above [] q = ap (λ (l : List (EventPlace × EventPlace)). list_any (same_places q) l) (append-nil above) ∙ sym (or-false (list_any (same_places q) above))
  member_with above (p ∷ pairs) q = seen_or above p pairs (λ (l : List (EventPlace × EventPlace)). is_member same_places l q ≡ (is_member same_places above q || at_places s (p ∷ pairs) q))
      (λ is. member_with above pairs q ∙ old (same_places q (places_in s p)) refl is)
      (λ is. member_with (above ++ places_in s p ∷ []) pairs q ∙ new)
    where
      -- where its place was seen, it adds nothing
      old : (b : Bool) → same_places q (places_in s p) ≡ b → list_any (same_places (places_in s p)) above ≡ true
          → (is_member same_places above q || at_places s pairs q) ≡ (is_member same_places above q || (same_places q (places_in s p) || at_places s pairs q))
      old true here is =
          let there : list_any (same_places q) above ≡ true = ap (λ (t : EventPlace × EventPlace → Bool). list_any t above) (λ j x. places_equiv.congr q (places_in s p) x here j) ∙ is in
          rw there refl
      old false here is = rw here refl

      -- else it is there
      new : (is_member same_places (above ++ places_in s p ∷ []) q || at_places s pairs q)
          ≡ (is_member same_places above q || (same_places q (places_in s p) || at_places s pairs q))
      new = ap (λ (b : Bool). b || at_places s pairs q) (list_any-append (same_places q) above (places_in s p ∷ []))
          ∙ or_assoc (list_any (same_places q) above) (same_places q (places_in s p) || false) (at_places s pairs q)
          ∙ ap (λ (b : Bool). list_any (same_places q) above || (b || at_places s pairs q)) (or-false (same_places q (places_in s p)))

-- over all scenarios none stands twice
distinct_from : (pairs : Case → List (ℕ × ℕ)) (above : List (EventPlace × EventPlace)) (cases : List Case) → IsDistinct same_places above
    → IsDistinct same_places (places_from pairs above cases)
distinct_from pairs above [] once = once
distinct_from pairs above (c ∷ cases) once =
    distinct_from pairs (above_with c.scenario above (pairs c)) cases (distinct_with c.scenario above (pairs c) once)

-- a race of some scenario is at these places
abbrev at_cases : (Case → List (ℕ × ℕ)) → List Case → EventPlace × EventPlace → Bool
at_cases pairs cases q = list_any (λ c. at_places c.scenario (pairs c) q) cases

-- exactly the places of races are there
member_from : (pairs : Case → List (ℕ × ℕ)) (above : List (EventPlace × EventPlace)) (cases : List Case) (q : EventPlace × EventPlace)
    → is_member same_places (places_from pairs above cases) q ≡ (is_member same_places above q || at_cases pairs cases q)
member_from pairs above [] q = sym (or-false (list_any (same_places q) above))
member_from pairs above (c ∷ cases) q =
    member_from pairs (above_with c.scenario above (pairs c)) cases q
    ∙ ap (λ (b : Bool). b || at_cases pairs cases q) (member_with c.scenario above (pairs c) q)
    ∙ or_assoc (list_any (same_places q) above) (at_places c.scenario (pairs c) q) (at_cases pairs cases q)

-- each race of the few is one of the many, in these scenarios
abbrev AreAmong : (Case → List (ℕ × ℕ)) → (Case → List (ℕ × ℕ)) → List Case → Type 0
AreAmong few many cases = (c : Case) → Occurs cases c → (p : ℕ × ℕ) → Occurs (few c) p → Occurs (many c) p

module _ (few many : Case → List (ℕ × ℕ)) (cases : List Case) (among : AreAmong few many cases) where
  -- where one of the few is there is one of the many
  some_at : (q : EventPlace × EventPlace) → at_cases few cases q ≡ true → at_cases many cases q ≡ true
  some_at q some =
      let found = any_parts (λ (c : Case). at_places c.scenario (few c) q) cases some in
      let c = found.0 in
      let race = any_parts (λ (p : ℕ × ℕ). same_places q (places_in c.scenario p)) (few c) found.2 in
      any_in (λ (b : Case). at_places b.scenario (many b) q) cases c found.1
      (any_in (λ (p : ℕ × ℕ). same_places q (places_in c.scenario p)) (many c) race.0 (among c found.1 race.0 race.1) race.2)

  -- what implies a test changes nothing beside it
  within : (a b : Bool) → (b ≡ true → a ≡ true) → b ≡ (a && b)
  within true b then = refl
  within false true then = sym (then refl)
  within false false then = refl

  -- so as many places are of the few as are of both
  both : length (places_from few [] cases) ≡ length (filter (is_member same_places (places_from few [] cases)) (places_from many [] cases))
  unfolding IsDistinct
  both =
      length-IsIntersection places_equiv (places_from many [] cases) (places_from few [] cases) (places_from few [] cases)
      (distinct_from many [] cases tt) (distinct_from few [] cases tt)
      (λ q. within (is_member same_places (places_from many [] cases) q) (is_member same_places (places_from few [] cases) q)
      (λ there. member_from many [] cases q ∙ some_at q (sym (member_from few [] cases q) ∙ there)))
      ∙ sym (length-filter (is_member same_places (places_from few [] cases)) (places_from many [] cases))

  -- and the others are of the many alone
  all_parts : length (places_from few [] cases) + length (without (places_from many [] cases) (places_from few [] cases)) ≡ length (places_from many [] cases)
  all_parts =
      let some = places_from few [] cases in
      let split = length-filter_both (is_member same_places some) (λ (p : EventPlace × EventPlace). not (list_any (same_places p) some)) (λ p. refl) (places_from many [] cases) in
      let same = both in
      omega (arith, split, same)

module _ (q : ScenarioCheck) (cases : List Case) (all : All (IsCase q) cases) where
  -- those of kinds that are not left out are races, and those that count are of such kinds
  named_are : AreAmong (named_of q) (all_of q) cases
  named_are c there p is = let e = judged_in q c in (filter_parts (counts (of_kinds q.options.allowed) (cause_in e)) (races_of e) p is).0

  counting_are : AreAmong (counting_of q) (named_of q) cases
  counting_are c there p is =
      let e = judged_in q c in
      let found = filter_parts (counts c.left (cause_in e)) (races_of e) p is in
      let known = all_at (IsCase q) cases c there all in
      let parts = and_parts (not (is_accepted c.left p)) (not (has_kind c.left.kinds (kind_in e p.0 p.1))) found.1 in
      filter_from (counts (of_kinds q.options.allowed) (cause_in e)) (races_of e) p found.0
      (ap (λ (kinds : KindSet). not (has_kind kinds (kind_in e p.0 p.1))) (sym known.left_is.kinds) ∙ parts.1)

  -- all places are allowed, or of other kinds
  allowed_parts : length (race_places q cases) ≡ unwrap_or (place_counts q cases).allowed 0 + length (named_places q cases)
  allowed_parts =
      let rest = length (without (race_places q cases) (named_places q cases)) in
      let n = length (named_places q cases) in
      by_test (is_empty q.options.allowed)
      (λ empty.
      let places : length (race_places q cases) ≡ n = ap length (sym (same_places_from (named_of q) (all_of q) (IsCase q) (λ c is. all_named q c empty) [] cases all)) in
      let same : length (race_places q cases) ≡ 0 + n = omega (arith, places) in
      same ∙ sym (ap (λ (b : Bool). unwrap_or (cond b None (Some rest)) 0 + n) empty))
      (λ some.
      let parts = all_parts (named_of q) (all_of q) cases named_are in
      let sum : length (race_places q cases) ≡ rest + n = omega (arith, parts) in
      sum ∙ sym (ap (λ (b : Bool). unwrap_or (cond b None (Some rest)) 0 + n) some))

  -- and these are accepted, or listed without `closest`
  accepted_parts : q.options.closest ≡ false → length (named_places q cases) ≡ unwrap_or (place_counts q cases).accepted 0 + length (listed_places q cases)
  accepted_parts off =
      let rest = length (without (named_places q cases) (counting_places q cases)) in
      let n = length (listed_places q cases) in
      let listed = ap length (same_places_from (asked_of q) (counting_of q) (IsCase q) (λ c is. plain_listed q off c) [] cases all) in
      by_test (is_some q.marks)
      (λ some.
      let parts = all_parts (counting_of q) (named_of q) cases counting_are in
      let sum : length (named_places q cases) ≡ rest + n = omega (arith, parts, listed) in
      sum ∙ sym (ap (λ (b : Bool). unwrap_or (cond b (Some rest) None) 0 + n) some))
      (λ none.
      let same = ap length (same_places_from (counting_of q) (named_of q) (IsCase q) (λ c is. plain_left q c is none) [] cases all) in
      let sum : length (named_places q cases) ≡ 0 + n = omega (arith, same, listed) in
      sum ∙ sym (ap (λ (b : Bool). unwrap_or (cond b (Some rest) None) 0 + n) none))

pub add_up : PlacesAddUp
add_up q scenarios cases are off =
    let one = allowed_parts q cases are.all in
    let two = accepted_parts q cases are.all off in
    omega (arith, one, two)
