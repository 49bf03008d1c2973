-- Lists of which a relation holds place by place, and what becomes of it where one place changes.
use Rattle.std.proofs.Common.{◌≡◌, ◌≢◌, ℕ, zero, suc, ◌<◌, true, false, List, [], ◌∷◌, map, length, set, get_or, drop, ◌≤◌, refl, sym, ap, subst, arith}
use Rattle.std.specs.List.{AllZip}
use Rattle.msc_chart.specs.Lists.{occurs}
use Rattle.msc_chart.proofs.ListLemmas.{clash, occurs-head, occurs-tail, IsDistinct}
use Rattle.msc_execution.proofs.Lists.Words.{fails}

-- a wider relation holds too
pub zip_map : {X Y : Type 0} (R S : X → Y → Type 0) (xs : List X) (ys : List Y)
    → ((x : X) (y : Y) → R x y → S x y) → AllZip R xs ys → AllZip S xs ys
zip_map R S [] [] f h = tt
zip_map R S [] (y ∷ ys) f h = absurd h
zip_map R S (x ∷ xs) [] f h = absurd h
zip_map R S (x ∷ xs) (y ∷ ys) f h = (f x y h.0, zip_map R S xs ys f h.1)

-- one relation after the other
pub zip_after : {X : Type 0} (R S T : X → X → Type 0) (xs ys zs : List X)
    → ((x y z : X) → R x y → S y z → T x z)
    → AllZip R xs ys → AllZip S ys zs → AllZip T xs zs
zip_after R S T [] [] [] f h k = tt
zip_after R S T [] [] (z ∷ zs) f h k = absurd k
zip_after R S T [] (y ∷ ys) zs f h k = absurd h
zip_after R S T (x ∷ xs) [] zs f h k = absurd h
zip_after R S T (x ∷ xs) (y ∷ ys) [] f h k = absurd k
zip_after R S T (x ∷ xs) (y ∷ ys) (z ∷ zs) f h k = (f x y z h.0 k.0, zip_after R S T xs ys zs f h.1 k.1)

-- of a list to itself
pub zip_self : {X : Type 0} (R : X → X → Type 0) (xs : List X) → ((x : X) → R x x) → AllZip R xs xs
zip_self R [] f = tt
zip_self R (x ∷ xs) f = (f x, zip_self R xs f)

-- numbers that agree place by place are one list
pub zip_numbers : {X : Type 0} (R : X → X → Type 0) (num : X → ℕ) (xs ys : List X)
    → ((x y : X) → R x y → num y ≡ num x)
    → AllZip R xs ys → map num ys ≡ map num xs
zip_numbers R num [] [] f h = refl
zip_numbers R num [] (y ∷ ys) f h = absurd h
zip_numbers R num (x ∷ xs) [] f h = absurd h
zip_numbers R num (x ∷ xs) (y ∷ ys) f h =
    let here = f x y h.0 in let rest = zip_numbers R num xs ys f h.1 in
    λ j. here j ∷ rest j

-- all but those of number q
zip_others : {X : Type 0} (R S : X → X → Type 0) (num : X → ℕ) (q : ℕ) (xs ys : List X)
    → ((x y : X) → R x y → num x ≢ q → S x y) → occurs (map num xs) q ≡ false → AllZip R xs ys
    → AllZip S xs ys
zip_others R S num q [] [] f none h = tt
zip_others R S num q [] (y ∷ ys) f none h = absurd h
zip_others R S num q (x ∷ xs) [] f none h = absurd h
zip_others R S num q (x ∷ xs) (y ∷ ys) f none h = (
  f x y h.0 (λ same. clash (subst (λ (k : ℕ). occurs (num x ∷ map num xs) k ≡ true) same
      (occurs-head (num x) (map num xs))) none),
  zip_others R S num q xs ys f
      (fails (occurs (map num xs) q) (λ there. clash (occurs-tail (num x) (map num xs) q there) none)) h.1,
)

-- the number at a place is one of the numbers
zip_number : {X : Type 0} (R : X → X → Type 0) (num : X → ℕ) (q : ℕ) (xs ys : List X) (k : ℕ) (y : X)
    → ((x : X) → R x (get_or ys k y) → num x ≡ q) → k < length ys → AllZip R xs ys
    → occurs (map num xs) q ≡ true
zip_number R num q [] [] k y f lt h = absurd (omega arith)
zip_number R num q [] (z ∷ ys) k y f lt h = absurd h
zip_number R num q (x ∷ xs) [] k y f lt h = absurd h
zip_number R num q (x ∷ xs) (z ∷ ys) zero y f lt h =
    subst (λ (k : ℕ). occurs (num x ∷ map num xs) k ≡ true) (f x h.0) (occurs-head (num x) (map num xs))
zip_number R num q (x ∷ xs) (z ∷ ys) (suc k) y f lt h =
    occurs-tail (num x) (map num xs) q (zip_number R num q xs ys k y f (omega arith) h.1)

-- One place changes, that of number q, and the others are looked at anew.
pub zip_one : {X : Type 0} (R S : X → X → Type 0) (num : X → ℕ) (q : ℕ) (xs ys : List X) (k : ℕ) (y new : X)
    → k < length ys → IsDistinct (map num xs)
    → ((x : X) → R x (get_or ys k y) → num x ≡ q)
    → ((x : X) → R x (get_or ys k y) → S x new)
    → ((x z : X) → R x z → num x ≢ q → S x z)
    → AllZip R xs ys → AllZip S xs (set ys k new)
zip_one R S num q [] [] k y new lt once is own others h = absurd (omega arith)
zip_one R S num q [] (z ∷ ys) k y new lt once is own others h = absurd h
zip_one R S num q (x ∷ xs) [] k y new lt once is own others h = absurd h
zip_one R S num q (x ∷ xs) (z ∷ ys) zero y new lt once is own others h = (
  own x h.0,
  zip_others R S num q xs ys others
      (subst (λ (k : ℕ). occurs (map num xs) k ≡ false) (is x h.0) once.0) h.1,
)
zip_one R S num q (x ∷ xs) (z ∷ ys) (suc k) y new lt once is own others h =
    let there = zip_number R num q xs ys k y is (omega arith) h.1 in (
      others x z h.0 (λ same. clash (subst (λ (n : ℕ). occurs (map num xs) n ≡ true) (sym same) there)
          once.0),
      zip_one R S num q xs ys k y new (omega arith) once.1 is own others h.1,
    )

-- one place changes, and the others stay
pub zip_set : {X : Type 0} (R : X → X → Type 0) (xs ys : List X) (k : ℕ) (y new : X)
    → k < length ys → ((x : X) → R x (get_or ys k y) → R x new) → AllZip R xs ys → AllZip R xs (set ys k new)
zip_set R [] [] k y new lt own h = absurd (omega arith)
zip_set R [] (z ∷ ys) k y new lt own h = absurd h
zip_set R (x ∷ xs) [] k y new lt own h = absurd h
zip_set R (x ∷ xs) (z ∷ ys) zero y new lt own h = (own x h.0, h.1)
zip_set R (x ∷ xs) (z ∷ ys) (suc k) y new lt own h = (h.0, zip_set R xs ys k y new (omega arith) own h.1)

-- the relation holds of the first i places, and the others are the same
abbrev pub ZipsUpTo : {X : Type 0} → (X → X → Type 0) → ℕ → List X → List X → Type 0
ZipsUpTo R zero xs ys = xs ≡ ys
ZipsUpTo R (suc i) [] [] = Unit {0}
ZipsUpTo R (suc i) [] (y ∷ ys) = ⊥
ZipsUpTo R (suc i) (x ∷ xs) [] = ⊥
ZipsUpTo R (suc i) (x ∷ xs) (y ∷ ys) = R x y × ZipsUpTo R i xs ys

-- one place more
pub upto_more : {X : Type 0} (R : X → X → Type 0) (i : ℕ) (xs ys : List X) (d new : X) → i < length ys
    → R (get_or ys i d) new
    → ZipsUpTo R i xs ys → ZipsUpTo R (suc i) xs (set ys i new)
upto_more R zero xs [] d new lt own h = absurd (omega arith)
upto_more R zero [] (y ∷ ys) d new lt own h = absurd (cc)
upto_more R zero (x ∷ xs) (y ∷ ys) d new lt own h =
    let head : y ≡ x = ap (λ l. get_or l 0 d) (sym h) in
    let tail : xs ≡ ys = ap (λ l. drop 1 l) h in
    (subst (λ z. R z new) head own, tail)
upto_more R (suc i) [] [] d new lt own h = absurd (omega arith)
upto_more R (suc i) [] (y ∷ ys) d new lt own h = absurd h
upto_more R (suc i) (x ∷ xs) [] d new lt own h = absurd h
upto_more R (suc i) (x ∷ xs) (y ∷ ys) d new lt own h = (h.0, upto_more R i xs ys d new (omega arith) own h.1)

-- all places
pub upto_all : {X : Type 0} (R : X → X → Type 0) (i : ℕ) (xs ys : List X) → length ys ≤ i
    → ZipsUpTo R i xs ys → AllZip R xs ys
upto_all R zero [] [] le h = tt
upto_all R zero (x ∷ xs) [] le h = absurd (cc)
upto_all R zero xs (y ∷ ys) le h = absurd (omega arith)
upto_all R (suc i) [] [] le h = tt
upto_all R (suc i) [] (y ∷ ys) le h = absurd h
upto_all R (suc i) (x ∷ xs) [] le h = absurd h
upto_all R (suc i) (x ∷ xs) (y ∷ ys) le h = (h.0, upto_all R i xs ys (omega arith) h.1)
