-- What the functions keep that look for a ring. `away` has for each number how many steps it is away from
-- the start.
use Rattle.std.specs.Prelude.{◌≡◌, ◌≢◌, ◌⊎◌, ℕ, ◌+◌, ◌-◌, ◌<◌, ◌≤◌, Bool, List, length, Option, Some, None, slice_index, IsTrue}
use Rattle.rings.specs.Searching.{never}

-- y is the best that x leads to: none is nearer, and of those that are as near none is less
pub record IsBest (leads : ℕ → ℕ → Bool) (n : ℕ) (away : List ℕ) (x y : ℕ) : Type 0 where
  pub nearest : (z : ℕ) → z < n → IsTrue (leads x z) → slice_index away y ≤ slice_index away z
  pub least : (z : ℕ) → z < n → IsTrue (leads x z) → slice_index away z ≡ slice_index away y → y ≤ z

-- y is the next number behind x: of those that x leads to and that are less than `bound` away the
-- nearest, and of those the least
pub record IsNearest (leads : ℕ → ℕ → Bool) (n : ℕ) (away : List ℕ) (x bound y : ℕ) : Type 0 where
  pub inside : y < n
  pub led : IsTrue (leads x y)
  pub below : slice_index away y < bound
  pub best : IsBest leads n away x y

-- x leads to no number that is less than `bound` away
abbrev pub HasNoNearest : (ℕ → ℕ → Bool) → ℕ → List ℕ → ℕ → ℕ → Type 0
HasNoNearest leads n away x bound =
    (z : ℕ) → z < n → IsTrue (leads x z) → bound ≤ slice_index away z

-- of the numbers below y: no number that x leads to is less than `least` away; what was found is the
-- least of those that are `least` away, and where nothing was found `least` is still the bound
abbrev pub IsFoundAt : (ℕ → ℕ → Bool) → List ℕ → ℕ → ℕ → ℕ → Option ℕ → ℕ → Type 0
IsFoundAt leads away x bound y None least = least ≡ bound
IsFoundAt leads away x bound y (Some f) least =
    (f < y) × IsTrue (leads x f) × (slice_index away f ≡ least) × (least < bound) × ((z : ℕ) → z < y → IsTrue (leads x z) → slice_index away z ≡ least → f ≤ z)

pub record IsNearestBelow (leads : ℕ → ℕ → Bool) (away : List ℕ) (x bound y : ℕ) (found : Option ℕ) (least : ℕ) : Type 0 where
  pub bounded : (z : ℕ) → z < y → IsTrue (leads x z) → least ≤ slice_index away z
  pub is_found : IsFoundAt leads away x bound y found least

-- a walk that has left the start: it has come nearer with each step behind the first
pub record HasLeft (away : List ℕ) (start bound last : ℕ) (walk : List ℕ) : Type 0 where
  pub more : 1 < length walk
  pub bound_is : bound ≡ slice_index away last
  pub elsewhere : last ≢ start
  pub nearer : length walk + bound ≤ slice_index away (slice_index walk 1) + 2

-- The numbers go from the start along the relation to `last`, each time to the best one, and none comes
-- twice. All but the start are at least `bound` away.
pub record IsWalk (leads : ℕ → ℕ → Bool) (n : ℕ) (away : List ℕ) (start bound last : ℕ) (walk : List ℕ) : Type 0 where
  pub some : 0 < length walk
  pub begins : slice_index walk 0 ≡ start
  pub ends : slice_index walk (length walk - 1) ≡ last
  pub inside : (k : ℕ) → k < length walk → slice_index walk k < n
  pub steps : (k : ℕ) → k + 1 < length walk
      → IsTrue (leads (slice_index walk k) (slice_index walk (k + 1)))
  pub best : (k : ℕ) → k + 1 < length walk
      → IsBest leads n away (slice_index walk k) (slice_index walk (k + 1))
  pub once : (i k : ℕ) → i < k → k < length walk → slice_index walk i ≢ slice_index walk k
  pub far : (k : ℕ) → 0 < k → k < length walk → bound ≤ slice_index away (slice_index walk k)
  pub reached : (k : ℕ) → 0 < k → k < length walk → slice_index away (slice_index walk k) < never
  pub left : ((length walk ≡ 1) × (bound ≡ never)) ⊎ HasLeft away start bound last walk
