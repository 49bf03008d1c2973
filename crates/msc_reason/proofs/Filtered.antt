-- What stands in a list that passes a test.
use Rattle.std.proofs.Common.{◌≡◌, ◌≢◌, ℕ, zero, suc, Bool, true, false, cond, ◌||◌, ◌&&◌, List, [], ◌∷◌, refl, sym, ap, ◌∙◌, subst, arith}
use Rattle.std.specs.List.{filter, list_any}
use Rattle.std.proofs.lemmas.Bool.{or_left, or_right}
use Rattle.msc_chart.proofs.ListLemmas.{by_test, clash}
use Rattle.msc_chart.specs.Lists.{Occurs}
use Rattle.msc_race.specs.Races.{AreAscending}
use Rattle.msc_race.proofs.Listing.Ascending.{first_ascends}

-- a list of which all passes stays as it is
pub filter_all : {X : Type 0} (test : X → Bool) (xs : List X) → ((x : X) → test x ≡ true) → filter test xs ≡ xs
filter_all test [] all = refl
filter_all test (x ∷ xs) all = rw (all x, filter_all test xs all) refl

-- one behind another
behind : {X : Type 0} (x y : X) (xs : List X) → Occurs xs x → Occurs (y ∷ xs) x
behind x y xs there = (suc there.0, there.1)

-- what is kept passes, and was there
pub filter_parts : {X : Type 0} (test : X → Bool) (xs : List X) (x : X) → Occurs (filter test xs) x → Occurs xs x × (test x ≡ true)
filter_parts test [] x (j, there) = absurd cc
filter_parts {X} test (y ∷ xs) x there = by_test (test y)
    (λ passes. kept (filter_parts test xs x) passes (subst (λ (b : Bool). Occurs (cond b (y ∷ filter test xs) (filter test xs)) x) passes there))
    (λ fails. let rest = filter_parts test xs x (subst (λ (b : Bool). Occurs (cond b (y ∷ filter test xs) (filter test xs)) x) fails there) in
    (behind x y xs rest.0, rest.1))
  where
    -- where the first is kept
    kept : (Occurs (filter test xs) x → Occurs xs x × (test x ≡ true)) → test y ≡ true → Occurs (y ∷ filter test xs) x → Occurs (y ∷ xs) x × (test x ≡ true)
    kept others passes (zero, at) = let same : y ≡ x = cc in ((zero, at), ap test (sym same) ∙ passes)
    kept others passes (suc j, at) = let rest = others (j, at) in (behind x y xs rest.0, rest.1)

-- what was there and passes is kept
pub filter_from : {X : Type 0} (test : X → Bool) (xs : List X) (x : X) → Occurs xs x → test x ≡ true → Occurs (filter test xs) x
filter_from test [] x (j, there) passes = absurd cc
filter_from {X} test (y ∷ xs) x (zero, at) passes =
    let same : y ≡ x = cc in
    subst (λ (b : Bool). Occurs (cond b (y ∷ filter test xs) (filter test xs)) x) (sym (ap test same ∙ passes)) (zero, at)
filter_from {X} test (y ∷ xs) x (suc j, at) passes =
    let rest = filter_from test xs x (j, at) passes in
    by_test (test y)
    (λ first. subst (λ (b : Bool). Occurs (cond b (y ∷ filter test xs) (filter test xs)) x) (sym first) (behind x y (filter test xs) rest))
    (λ none. subst (λ (b : Bool). Occurs (cond b (y ∷ filter test xs) (filter test xs)) x) (sym none) rest)

-- where some passes, one stands in the list that does
pub any_parts : {X : Type 0} (test : X → Bool) (xs : List X) → list_any test xs ≡ true → (x : X) × Occurs xs x × (test x ≡ true)
any_parts test [] some = absurd cc
any_parts test (y ∷ xs) some = by_test (test y)
    (λ passes. (y, (zero, refl), passes))
    (λ fails.
    let rest = any_parts test xs (sym (ap (λ (b : Bool). b || list_any test xs) fails) ∙ some) in
    (rest.0, behind rest.0 y xs rest.1, rest.2))

-- and where one does, some passes
pub any_in : {X : Type 0} (test : X → Bool) (xs : List X) (x : X) → Occurs xs x → test x ≡ true → list_any test xs ≡ true
any_in test [] x (j, there) passes = absurd cc
any_in test (y ∷ xs) x (zero, at) passes =
    let same : y ≡ x = cc in or_left (test y) (list_any test xs) (ap test same ∙ passes)
any_in test (y ∷ xs) x (suc j, at) passes = or_right (test y) (list_any test xs) (any_in test xs x (j, at) passes)

-- what is kept twice passes both
pub filter_both : {X : Type 0} (one two : X → Bool) (xs : List X) → filter two (filter one xs) ≡ filter (λ x. one x && two x) xs
filter_both one two [] = refl
filter_both {X} one two (x ∷ xs) = by_test (one x)
    (λ passes. rw passes (ap (λ (l : List X). cond (two x) (x ∷ l) l) (filter_both one two xs)))
    (λ fails. rw fails (filter_both one two xs))

-- where none passes, none is kept
pub filter_none : {X : Type 0} (test : X → Bool) (xs : List X) → list_any test xs ≡ false → filter test xs ≡ []
filter_none test [] none = refl
filter_none {X} test (x ∷ xs) none = by_test (test x)
    (λ passes. clash (or_left (test x) (list_any test xs) passes) none)
    (λ fails. rw fails (filter_none test xs (sym (ap (λ (b : Bool). b || list_any test xs) fails) ∙ none)))

-- and where one does, some is
pub filter_some : {X : Type 0} (test : X → Bool) (xs : List X) → list_any test xs ≡ true → filter test xs ≢ []
filter_some {X} test xs some none =
    let one = any_parts test xs some in
    let kept = filter_from test xs one.0 one.1 one.2 in
    absurd (let empty : Occurs {T = X} [] one.0 = subst (λ (l : List X). Occurs l one.0) none kept in cc)

-- what is kept of an ascending list is ascending
pub filter_ascends : (test : ℕ × ℕ → Bool) (xs : List (ℕ × ℕ)) → AreAscending xs → AreAscending (filter test xs)
filter_ascends test [] all = all
filter_ascends test (x ∷ xs) all =
    let rest = filter_ascends test xs (λ i j p q less h k. all (suc i) (suc j) p q (omega arith) h k) in
    by_test (test x)
    (λ passes. rw passes (first_ascends x (filter test xs)
    (λ q there. let was = (filter_parts test xs q there).0 in all zero (suc was.0) x q (omega arith) refl was.1) rest))
    (λ fails. rw fails rest)
