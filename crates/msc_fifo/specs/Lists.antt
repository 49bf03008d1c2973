-- Words for lists.
use Rattle.std.specs.Prelude.{◌≡◌, ℕ, List, [], ◌∷◌, Some, slice_get}

-- x stands in a list
abbrev pub Occurs : {A : Type 0} → List A → A → Type 0
Occurs xs x = (k : ℕ) × (slice_get xs k ≡ Some x)

-- all members of a list, one by one
abbrev pub Each : {A : Type 0} → (A → Type 0) → List A → Type 0
Each P [] = Unit {0}
Each P (x ∷ xs) = P x × Each P xs
