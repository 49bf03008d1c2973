-- Lists in which each comes before all that follow it.
use Rattle.std.proofs.Common.{◌≡◌, ◌⊎◌, ℕ, ◌+◌, List, [], ◌∷◌, ◌++◌, length, suc, zero, inl, inr, refl, subst, arith}
use Rattle.std.proofs.lemmas.Option.{slice_get_within}
use Rattle.msc_chart.specs.Lists.{StandsAt, Occurs}
use Rattle.msc_notes.specs.AllFaults.{AreOrdered}

module _ {T : Type 0} where
  -- what stands in two joined lists stands in the first, or that much further on in the second
  pub joined_at : (xs ys : List T) (i : ℕ) (y : T) → StandsAt (xs ++ ys) i y
      → StandsAt xs i y ⊎ ((k : ℕ) × (i ≡ length xs + k) × StandsAt ys k y)
  joined_at [] ys i y h = inr (i, omega arith, h)
  joined_at (z ∷ xs) ys zero y h = inl h
  joined_at (z ∷ xs) ys (suc i) y h =
      elim (joined_at xs ys i y h) [ inl l ↦ inl l | inr r ↦ inr (r.0, omega (arith, r.1), r.2) ]

  -- what stands in a list stands there with more behind it
  pub in_front : (xs ys : List T) (i : ℕ) (y : T) → StandsAt xs i y → StandsAt (xs ++ ys) i y
  in_front [] ys i y h = cc
  in_front (z ∷ xs) ys zero y h = h
  in_front (z ∷ xs) ys (suc i) y h = in_front xs ys i y h

  -- and what is behind it occurs too
  pub in_back : (xs ys : List T) (y : T) → Occurs ys y → Occurs (xs ++ ys) y
  in_back [] ys y h = h
  in_back (z ∷ xs) ys y h = let r = in_back xs ys y h in (suc r.0, r.1)

  -- what occurs in two joined lists occurs in one of them
  pub in_either : (xs ys : List T) (y : T) → Occurs (xs ++ ys) y → Occurs xs y ⊎ Occurs ys y
  in_either xs ys y h =
      elim (joined_at xs ys h.0 y h.1) [ inl a ↦ inl (h.0, a) | inr b ↦ inr (b.0, b.2) ]

  -- the last stands behind all others
  pub last_there : (xs : List T) (x : T) → StandsAt (xs ++ x ∷ []) (length xs) x
  last_there [] x = refl
  last_there (z ∷ xs) x = last_there xs x

  -- one alone
  pub one_alone : (x y : T) → Occurs (x ∷ []) y → x ≡ y
  one_alone x y (zero, h) = cc
  one_alone x y (suc i, h) = cc

module _ {T : Type 0} (Before : T → T → Type 0) where
  -- there is no order in an empty list, and none in a list of one
  pub ordered_none : AreOrdered Before []
  ordered_none i j x y lt p q = cc

  pub ordered_one : (z : T) → AreOrdered Before (z ∷ [])
  ordered_one z i j x y lt p q =
      absurd (omega (arith, lt, slice_get_within (z ∷ []) i x p, slice_get_within (z ∷ []) j y q))

  -- two ordered lists of which all of the first come before all of the second
  pub ordered_joined : (xs ys : List T) → AreOrdered Before xs → AreOrdered Before ys
      → ((x y : T) → Occurs xs x → Occurs ys y → Before x y) → AreOrdered Before (xs ++ ys)
  ordered_joined xs ys front back across i j x y lt p q =
      elim (joined_at xs ys j y q) [
        | inl b ↦ elim (joined_at xs ys i x p) [
          | inl a ↦ front i j x y lt a b
          | inr a ↦ absurd (omega (arith, lt, a.1, slice_get_within xs j y b))
        ]
        | inr b ↦ elim (joined_at xs ys i x p) [
          | inl a ↦ across x y (i, a) (b.0, b.2)
          | inr a ↦ back a.0 b.0 x y (omega (arith, lt, a.1, b.1)) a.2 b.2
        ]
      ]

  -- one more behind all that come before it
  pub ordered_more : (xs : List T) (z : T) → AreOrdered Before xs
      → ((x : T) → Occurs xs x → Before x z) → AreOrdered Before (xs ++ z ∷ [])
  ordered_more xs z front below =
      ordered_joined xs (z ∷ []) front (ordered_one z)
      (λ x y a b. subst (Before x) (one_alone z y b) (below x a))

  -- the beginning of an ordered list is ordered, and comes before what follows
  pub ordered_front : (xs ys : List T) → AreOrdered Before (xs ++ ys) → AreOrdered Before xs
  ordered_front xs ys h i j x y lt p q =
      h i j x y lt (in_front xs ys i x p) (in_front xs ys j y q)

  -- and each of it comes before the last
  pub last_after : (xs : List T) (z : T) → AreOrdered Before (xs ++ z ∷ [])
      → (x : T) → Occurs xs x → Before x z
  last_after xs z h x o =
      h o.0 (length xs) x z (slice_get_within xs o.0 x o.1) (in_front xs (z ∷ []) o.0 x o.1) (last_there xs z)
