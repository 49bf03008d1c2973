-- How many steps numbers are away from the start of a ring, and the search that finds it. `away` has for
-- each number how many steps lead from it to the start, or `never`.
use Rattle.std.specs.Prelude.{◌≡◌, ◌≢◌, ℕ, ◌+◌, ◌<◌, ◌≤◌, ◌==◌, Bool, List, length, count_by, slice_index, IsTrue}

-- what stands for a number from which no way leads to the start
abbrev pub never : ℕ
never = 4294967295

-- the number was reached, and is at most one step farther than another
abbrev pub IsReachedBy : List ℕ → ℕ → ℕ → Type 0
IsReachedBy away x y =
    (slice_index away x ≤ slice_index away y + 1) × (slice_index away x < never)

-- the start alone is 0 steps away, and from each other number that was reached one step leads nearer
pub record IsNearing (leads : ℕ → ℕ → Bool) (n start : ℕ) (away : List ℕ) : Type 0 where
  pub each : length away ≡ n
  pub zero_at : slice_index away start ≡ 0
  pub small : (x : ℕ) → x < n → slice_index away x ≤ never
  pub positive : (x : ℕ) → x < n → x ≢ start → 0 < slice_index away x
  pub nearer : (x : ℕ) → x < n → x ≢ start → slice_index away x < never
      → (y : ℕ) × (y < n) × IsTrue (leads x y) × (slice_index away y < slice_index away x)

-- what leads to a number that was reached is reached by it
pub record IsAway (leads : ℕ → ℕ → Bool) (n start : ℕ) (away : List ℕ) : Type 0 where
  pub nearing : IsNearing leads n start away
  pub closer : (x y : ℕ) → x < n → y < n → IsTrue (leads x y) → slice_index away y < never
      → IsReachedBy away x y

-- The search before it looks at place `at` of the queue. In the queue stand the numbers that were
-- reached, the nearest first; what leads to one before that place was reached by it.
pub record IsSearch (leads : ℕ → ℕ → Bool) (n start at : ℕ) (away queue : List ℕ) : Type 0 where
  pub nearing : IsNearing leads n start away
  pub inside : (k : ℕ) → k < length queue → slice_index queue k < n
  pub marked : (k : ℕ) → k < length queue → slice_index away (slice_index queue k) < never
  pub queued : (x : ℕ) → x < n → slice_index away x < never
      → (k : ℕ) × (k < length queue) × (slice_index queue k ≡ x)
  pub ordered : (i k : ℕ) → i ≤ k → k < length queue
      → slice_index away (slice_index queue i) ≤ slice_index away (slice_index queue k)
  pub near : (k : ℕ) → at < length queue → k < length queue
      → slice_index away (slice_index queue k) ≤ slice_index away (slice_index queue at) + 1
  pub early : (k : ℕ) → k < length queue → slice_index away (slice_index queue k) ≤ k
  pub count : length queue + count_by (λ a. a == never) away ≡ n
  pub done : (k x : ℕ) → k < at → k < length queue → x < n → IsTrue (leads x (slice_index queue k))
      → IsReachedBy away x (slice_index queue k)

-- the search while it looks at place `at`, where of the numbers below x those were reached that lead to it
pub record IsSearchTo (leads : ℕ → ℕ → Bool) (n start at x : ℕ) (away queue : List ℕ) : Type 0 where
  pub search : IsSearch leads n start at away queue
  pub «open» : at < length queue
  pub so_far : (z : ℕ) → z < x → IsTrue (leads z (slice_index queue at))
      → IsReachedBy away z (slice_index queue at)

-- the same, where y stands at that place, and what leads to it is `farther` away
pub record IsReaching (leads : ℕ → ℕ → Bool) (n start at x y farther : ℕ) (away queue : List ℕ) : Type 0 where
  pub to : IsSearchTo leads n start at x away queue
  pub y_is : y ≡ slice_index queue at
  pub farther_is : farther ≡ slice_index away y + 1
