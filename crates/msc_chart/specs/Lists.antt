-- Words for lists and numbers, of charts and runs alike.
use Rattle.std.specs.Prelude.{◌≡◌, ℕ, ◌<◌, Bool, false, ◌||◌, cond, List, [], ◌∷◌, ◌++◌, Some, filter, map, nat_eq, slice_get}
use Rattle.std.specs.List.{range_with_len, flat_map}

-- x stands at place i
abbrev pub StandsAt : {T : Type 0} → List T → ℕ → T → Type 0
StandsAt xs i x = slice_get xs i ≡ Some x

-- x stands somewhere
abbrev pub Occurs : {T : Type 0} → List T → T → Type 0
Occurs xs x = (j : ℕ) × StandsAt xs j x

-- the least number with a property
pub record IsLeast (P : ℕ → Type 0) (x : ℕ) : Type 0 where
  pub itself : P x
  pub none_below : (y : ℕ) → y < x → P y → ⊥

-- the pairs of e with the numbers below k that pass a test, ascending
unfoldable pub pairs_to : (ℕ → ℕ → Bool) → ℕ → ℕ → List (ℕ × ℕ)
pairs_to test e k = filter (λ p. test p.0 p.1) (map (λ f. (e, f)) (range_with_len 0 k))

-- the pairs of the numbers below n that pass a test, ascending
unfoldable pub pairs_of : (ℕ → ℕ → Bool) → ℕ → List (ℕ × ℕ)
pairs_of test n = flat_map (λ e. pairs_to test e n) (range_with_len 0 n)

-- e is in the list
unfoldable pub occurs : List ℕ → ℕ → Bool
occurs [] e = false
occurs (x ∷ xs) e = nat_eq x e || occurs xs e

-- what stands before the first e of the list, or the whole list
unfoldable pub until : List ℕ → ℕ → List ℕ
until [] e = []
until (x ∷ xs) e = cond (nat_eq x e) [] (x ∷ until xs e)

-- s is the first of the list
abbrev pub IsFirst : List ℕ → ℕ → Type 0
IsFirst [] s = ⊥
IsFirst (x ∷ xs) s = x ≡ s

-- each number of the list may come after those before it, the first after these
abbrev pub Steps : (List ℕ → ℕ → Type 0) → List ℕ → List ℕ → Type 0
Steps May past [] = Unit {0}
Steps May past (x ∷ xs) = May past x × Steps May (past ++ x ∷ []) xs

-- a list that holds nothing twice
abbrev pub IsOnce : List ℕ → Type 0
IsOnce xs = Steps (λ past x. occurs past x ≡ false) [] xs
