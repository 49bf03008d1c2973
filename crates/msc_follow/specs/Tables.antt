-- Tables of pairs, as rows of bits: what they have gained, and whether they are closed.
use Rattle.std.specs.Prelude.{◌≡◌, ◌↔◌, ◌⊎◌, ℕ, ◌<◌, Bool, List, length, IsTrue}
use Rattle.bit_rows.specs.Tables.{cell}
use Rattle.msc_chart.specs.Orders.{WiredChart}
use Rattle.msc_follow.specs.Paths.{Path}
use Rattle.msc_follow.specs.Steps.{leads}

-- Row x has gained the numbers that pass a test, those among them that are done, and no others.
pub record GainsSo (n : ℕ) (old new : List ℕ) (x : ℕ) (test : ℕ → Bool) (done : ℕ → Type 0) : Type 0 where
  pub kept : (z y : ℕ) → IsTrue (cell n old z y) → IsTrue (cell n new z y)
  pub only : (z y : ℕ) → IsTrue (cell n new z y) → IsTrue (cell n old z y) ⊎ ((z ≡ x) × IsTrue (test y))
  pub gained : (y : ℕ) → done y → IsTrue (test y) → IsTrue (cell n new x y)

-- all of them
abbrev pub HasGained : ℕ → List ℕ → List ℕ → ℕ → (ℕ → Bool) → Type 0
HasGained n old new x test = GainsSo n old new x test (λ y. Unit {0})

-- the table has the steps of the chart
abbrev pub AreSteps : WiredChart → List ℕ → Type 0
AreSteps chart words = (x y : ℕ) → IsTrue (cell (length chart.events) words x y) ↔ IsTrue (leads chart x y)

-- row k has been added to each row below i that had k, and nothing else has changed
pub record HasJoined (n : ℕ) (old new : List ℕ) (k i : ℕ) : Type 0 where
  pub kept : (x y : ℕ) → IsTrue (cell n old x y) → IsTrue (cell n new x y)
  pub only : (x y : ℕ) → IsTrue (cell n new x y)
      → IsTrue (cell n old x y) ⊎ (IsTrue (cell n old x k) × IsTrue (cell n old k y))
  pub joined : (x y : ℕ) → x < i → IsTrue (cell n old x k) → IsTrue (cell n old k y) → IsTrue (cell n new x y)

-- The table has what it had, and of what is new a path leads along what it had. It has the pairs that
-- are joined over a number below k.
pub record IsClosed (n : ℕ) (old new : List ℕ) (k : ℕ) : Type 0 where
  pub kept : (x y : ℕ) → IsTrue (cell n old x y) → IsTrue (cell n new x y)
  pub paths : (x y : ℕ) → IsTrue (cell n new x y) → Path (cell n old) x y
  pub over : (x m y : ℕ) → x < n → m < k → IsTrue (cell n new x m) → IsTrue (cell n new m y) → IsTrue (cell n new x y)
