-- What stands where in lists.
use Rattle.std.proofs.Common.{◌≡◌, ◌⊎◌, ℕ, zero, suc, ◌+◌, ◌<◌, length, arith, inl, inr, List, [], ◌∷◌, ◌++◌}
use Rattle.std.proofs.lemmas.Option.{slice_get_within}
use Rattle.msc_chart.specs.Lists.{StandsAt, Occurs}

-- an element of two joined lists, by its place
pub joined_at : {X : Type 0} (xs ys : List X) (i : ℕ) (x : X) → StandsAt (xs ++ ys) i x → StandsAt xs i x ⊎ ((k : ℕ) × (i ≡ length xs + k) × StandsAt ys k x)
joined_at [] ys i x h = inr (i, omega arith, h)
joined_at (y ∷ xs) ys zero x h = inl h
joined_at (y ∷ xs) ys (suc i) x h = elim (joined_at xs ys i x h) [ inl l ↦ inl l | inr r ↦ inr (r.0, omega (arith, r.1), r.2) ]

-- what occurs in one of two lists occurs in both joined
pub first_joined : {X : Type 0} (xs ys : List X) (x : X) → Occurs xs x → Occurs (xs ++ ys) x
first_joined [] ys x (j, h) = cc
first_joined (y ∷ xs) ys x (zero, h) = (0, h)
first_joined (y ∷ xs) ys x (suc j, h) = let r = first_joined xs ys x (j, h) in (suc r.0, r.1)

pub second_joined : {X : Type 0} (xs ys : List X) (x : X) → Occurs ys x → Occurs (xs ++ ys) x
second_joined [] ys x h = h
second_joined (y ∷ xs) ys x h = let r = second_joined xs ys x h in (suc r.0, r.1)

-- of any two elements the first comes before the second
abbrev pub Ordered : {X : Type 0} → (X → X → Type 0) → List X → Type 0
Ordered {X} R xs = (i j : ℕ) (x y : X) → i < j → StandsAt xs i x → StandsAt xs j y → R x y

pub ordered_append : {X : Type 0} (R : X → X → Type 0) (xs ys : List X) → Ordered R xs → Ordered R ys
    → ((x y : X) → Occurs xs x → Occurs ys y → R x y) → Ordered R (xs ++ ys)
ordered_append R xs ys first second across = λ i j x y le h k.
    elim (joined_at xs ys i x h) [
      | inl a ↦ elim (joined_at xs ys j y k) [
        | inl b ↦ first i j x y le a b
        | inr b ↦ across x y (i, a) (b.0, b.2)
      ]
      | inr a ↦ elim (joined_at xs ys j y k) [
        | inl b ↦ let within : j < length xs = slice_get_within xs j y b in let far = a.1 in absurd (omega (arith, within, far, le))
        | inr b ↦ second a.0 b.0 x y (omega (arith, a.1, b.1, le)) a.2 b.2
      ]
    ]
