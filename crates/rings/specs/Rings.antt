-- Rings of a relation between numbers below a bound.
use Rattle.std.specs.Prelude.{◌≡◌, ◌≢◌, ℕ, ◌+◌, ◌-◌, ◌<◌, ◌≤◌, Bool, List, length, slice_index, IsTrue}

-- the numbers go from the start along the relation and back to it, and none comes twice
pub record IsRing (leads : ℕ → ℕ → Bool) (n start : ℕ) (ring : List ℕ) : Type 0 where
  pub some : 0 < length ring
  pub begins : slice_index ring 0 ≡ start
  pub inside : (k : ℕ) → k < length ring → slice_index ring k < n
  pub steps : (k : ℕ) → k + 1 < length ring
      → IsTrue (leads (slice_index ring k) (slice_index ring (k + 1)))
  pub closes : IsTrue (leads (slice_index ring (length ring - 1)) start)
  pub once : (i k : ℕ) → i < k → k < length ring → slice_index ring i ≢ slice_index ring k

-- a ring through the start than which none is shorter, and of those that are no longer it is the
-- least: up to the first number in which another differs that number is greater there
pub record IsLeastRing (leads : ℕ → ℕ → Bool) (n start : ℕ) (ring : List ℕ) : Type 0 where
  pub is_ring : IsRing leads n start ring
  pub shortest : (other : List ℕ) → IsRing leads n start other → length ring ≤ length other
  pub least : (other : List ℕ) → IsRing leads n start other → length other ≡ length ring
      → (k : ℕ) → k < length ring
      → ((i : ℕ) → i < k → slice_index other i ≡ slice_index ring i)
      → slice_index ring k ≤ slice_index other k

-- no ring goes through the start
abbrev pub HasNoRing : (ℕ → ℕ → Bool) → ℕ → ℕ → Type 0
HasNoRing leads n start = (ring : List ℕ) → IsRing leads n start ring → ⊥
