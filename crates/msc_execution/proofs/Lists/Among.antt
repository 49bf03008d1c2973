-- What is among the elements of lists.
use Rattle.std.proofs.Common.{◌≡◌, ◌⊎◌, ℕ, zero, suc, Bool, true, eqb, List, [], ◌∷◌, ◌++◌, map, filter, Some, slice_get, inl, inr, ⊎_elim, refl, ap, subst}
use Rattle.std.specs.List.{AllZip, list_any}
use Rattle.std.proofs.lemmas.Bool.{eqb-true, eq-eqb, or_cases, or_left, or_right}
use Rattle.msc_chart.specs.Lists.{occurs, Occurs}
use Rattle.msc_fifo.specs.Lists.{Each}
use Rattle.msc_fifo.proofs.PlaceLemmas.{among_more}
use Rattle.msc_chart.proofs.ListLemmas.{clash, by_test, occurs-head, occurs-tail}

module _ {A : Type 0} where
  -- what is among the front is among the whole
  pub among_front : (xs ys : List A) (x : A) (k : ℕ) → slice_get xs k ≡ Some x
      → slice_get (xs ++ ys) k ≡ Some x
  among_front [] ys x k h = cc
  among_front (y ∷ xs) ys x zero h = h
  among_front (y ∷ xs) ys x (suc k) h = among_front xs ys x k h

  -- what is among two joined lists is among one of them
  pub among_cases : (xs ys : List A) (x : A) (k : ℕ) → slice_get (xs ++ ys) k ≡ Some x
      → Occurs xs x ⊎ Occurs ys x
  among_cases [] ys x k h = inr (k, h)
  among_cases (y ∷ xs) ys x zero h = inl (0, h)
  among_cases (y ∷ xs) ys x (suc k) h =
      ⊎_elim (λ (a : Occurs xs x). inl (among_more y x xs a)) (λ (b : Occurs ys x). inr b)
      (among_cases xs ys x k h)

  -- what stands in a list of one
  pub among_single : (y x : A) (k : ℕ) → slice_get (y ∷ []) k ≡ Some x → y ≡ x
  among_single y x zero h = cc
  among_single y x (suc k) h = cc

module _ {A B : Type 0} where
  -- what stands in a mapped list comes from what stands there
  pub map_at : (f : A → B) (xs : List A) (y : B) (k : ℕ) → slice_get (map f xs) k ≡ Some y
      → (x : A) × (slice_get xs k ≡ Some x) × (f x ≡ y)
  map_at f [] y k h = cc
  map_at f (x ∷ xs) y zero h = let same : f x ≡ y = cc in (x, refl, same)
  map_at f (x ∷ xs) y (suc k) h = map_at f xs y k h

  -- and what stands there is mapped
  pub at_map : (f : A → B) (xs : List A) (x : A) (k : ℕ) → slice_get xs k ≡ Some x
      → slice_get (map f xs) k ≡ Some (f x)
  at_map f [] x k h = cc
  at_map f (y ∷ xs) x zero h = let same : y ≡ x = cc in ap (λ z. Some (f z)) same
  at_map f (y ∷ xs) x (suc k) h = at_map f xs x k h

  -- place by place, from either side
  pub zip_right : (R : A → B → Type 0) (xs : List A) (ys : List B) (y : B) (k : ℕ) → AllZip R xs ys
      → slice_get ys k ≡ Some y → (x : A) × Occurs xs x × R x y
  zip_right R [] [] y k h at = cc
  zip_right R [] (b ∷ ys) y k h at = absurd h
  zip_right R (a ∷ xs) [] y k h at = absurd h
  zip_right R (a ∷ xs) (b ∷ ys) y zero h at = let same : b ≡ y = cc in
      (a, (0, refl), subst (λ (z : B). R a z) same h.0)
  zip_right R (a ∷ xs) (b ∷ ys) y (suc k) h at = let r = zip_right R xs ys y k h.1 at in
      (r.0, among_more a r.0 xs r.1, r.2)

  -- and the other way round
  pub zip_left : (R : A → B → Type 0) (xs : List A) (ys : List B) (x : A) (k : ℕ) → AllZip R xs ys
      → slice_get xs k ≡ Some x → (y : B) × Occurs ys y × R x y
  zip_left R [] [] x k h at = cc
  zip_left R [] (b ∷ ys) x k h at = absurd h
  zip_left R (a ∷ xs) [] x k h at = absurd h
  zip_left R (a ∷ xs) (b ∷ ys) x zero h at = let same : a ≡ x = cc in
      (b, (0, refl), subst (λ (z : A). R z b) same h.0)
  zip_left R (a ∷ xs) (b ∷ ys) x (suc k) h at = let r = zip_left R xs ys x k h.1 at in
      (r.0, among_more b r.0 ys r.1, r.2)

-- numbers
pub among_occurs : (xs : List ℕ) (x k : ℕ) → slice_get xs k ≡ Some x → occurs xs x ≡ true
unfolding occurs
among_occurs [] x k h = cc
among_occurs (y ∷ xs) x zero h = let same : y ≡ x = cc in
    or_left (eqb y x) (occurs xs x) (eq-eqb y x same)
among_occurs (y ∷ xs) x (suc k) h = or_right (eqb y x) (occurs xs x) (among_occurs xs x k h)

-- and the other way round
pub occurs_among : (xs : List ℕ) (x : ℕ) → occurs xs x ≡ true → Occurs xs x
unfolding occurs
occurs_among [] x h = clash h refl
occurs_among (y ∷ xs) x h =
    elim (or_cases (eqb y x) (occurs xs x) h) [
      | inl same ↦ (0, ap (λ z. Some z) (eqb-true y x same))
      | inr later ↦ among_more y x xs (occurs_among xs x later)
    ]

-- where some element passes, one does
pub any_parts : (p : ℕ → Bool) (xs : List ℕ) → list_any p xs ≡ true
    → (x : ℕ) × (occurs xs x ≡ true) × (p x ≡ true)
any_parts p [] h = clash h refl
any_parts p (y ∷ xs) h =
    elim (or_cases (p y) (list_any p xs) h) [
      | inl passes ↦ (y, occurs-head y xs, passes)
      | inr later ↦ let r = any_parts p xs later in (r.0, occurs-tail y xs r.0 r.1, r.2)
    ]

-- a filter keeps nothing, or something that passes
pub none_or_some : (p : ℕ → Bool) (xs : List ℕ)
    → (filter p xs ≡ []) ⊎ ((x : ℕ) × (occurs xs x ≡ true) × (p x ≡ true))
none_or_some p [] = inl refl
none_or_some p (y ∷ xs) =
    by_test (p y)
    (λ passes. inr (y, occurs-head y xs, passes))
    (λ fails. elim (none_or_some p xs) [
      | inl none ↦ inl (rw fails none)
      | inr some ↦ inr (some.0, occurs-tail y xs some.0 some.1, some.2)
    ])

-- what holds of each element holds of what stands at a place
pub each_at : {A : Type 0} (P : A → Type 0) (xs : List A) (x : A) (k : ℕ) → Each P xs
    → slice_get xs k ≡ Some x → P x
each_at P [] x k h at = cc
each_at P (y ∷ xs) x zero h at = let same : y ≡ x = cc in subst P same h.0
each_at P (y ∷ xs) x (suc k) h at = each_at P xs x k h.1 at

-- and of a number that occurs
pub each_occurs : (P : ℕ → Type 0) (xs : List ℕ) (e : ℕ) → Each P xs → occurs xs e ≡ true → P e
unfolding occurs
each_occurs P [] e h there = clash there refl
each_occurs P (x ∷ xs) e h there =
    elim (or_cases (eqb x e) (occurs xs e) there) [
      | inl same ↦ subst P (eqb-true x e same) h.0
      | inr later ↦ each_occurs P xs e h.1 later
    ]
