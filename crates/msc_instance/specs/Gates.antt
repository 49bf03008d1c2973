-- What is known of a gate, and what an instance logs under it.
use Rattle.std.specs.Prelude.{◌≡◌, ◌⊎◌, ℕ, Bool, List, [], ◌∷◌, ◌++◌, IsTrue}
use Rattle.msc_chart.specs.Lists.{occurs}
use Rattle.msc_chart.specs.Charts.{is_input}
use Rattle.msc_chart.specs.Drawings.{Drawing}
use Rattle.msc_ending.specs.declared.end.End.{End}
use Rattle.msc_ending.specs.declared.end.End.TheVariants.{Stopped}

-- whether it lets everything, and which event of which instance it may let
pub record Rule : Type 0 where
  pub is_open : Bool
  pub lets : ℕ → ℕ → Bool

-- the gate has let all these events of instance i
abbrev pub AreLet : (ℕ → ℕ → Bool) → ℕ → List ℕ → Type 0
AreLet lets i log = (e : ℕ) → IsTrue (occurs log e) → IsTrue (lets i e)

-- the log ends with an input, of which nothing is said, and the gate has let all before it
pub record EndsAtInput (lets : ℕ → ℕ → Bool) (d : Drawing) (i : ℕ) (log : List ℕ) : Type 0 where
  pub before : List ℕ
  pub input : ℕ
  pub whole : log ≡ before ++ input ∷ []
  pub takes : IsTrue (is_input d.events input)
  pub others : AreLet lets i before

-- The gate has let each event that instance i of a chart logged, but for an input at which the
-- instance was stopped.
abbrev pub WasLet : (ℕ → ℕ → Bool) → Drawing → ℕ → List ℕ → End → Type 0
WasLet lets d i log end = AreLet lets i log ⊎ ((end ≡ Stopped) × EndsAtInput lets d i log)
