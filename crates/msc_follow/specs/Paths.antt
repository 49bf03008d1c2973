-- Paths along the pairs of a test.
use Rattle.std.specs.Prelude.{ℕ, Bool, IsTrue}
use Rattle.msc_chart.specs.Lists.{IsLeast}

-- a path leads from x to y: the least transitive relation that has the pairs that pass
pub data Path (leads : ℕ → ℕ → Bool) : ℕ → ℕ → Type 0 where
  step : {x y : ℕ} → IsTrue (leads x y) → Path leads x y
  joined : {x y z : ℕ} → Path leads x y → Path leads y z → Path leads x z

-- no path leads back to its start
abbrev pub HasNoClosedPath : (ℕ → ℕ → Bool) → Type 0
HasNoClosedPath leads = (e : ℕ) → Path leads e e → ⊥

-- the least number from which a path leads back to it
abbrev pub IsLeastOnARing : (ℕ → ℕ → Bool) → ℕ → Type 0
IsLeastOnARing leads = IsLeast (λ e. Path leads e e)
