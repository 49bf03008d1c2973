-- The instances that are named on a command line.
use Rattle.std.specs.Prelude.{◌≡◌, ◌≢◌, ◌↔◌, ◌<◌, ℕ, Bool, false, List, [], Option, None, Some, IsTrue, get_or, length, map}
use Rattle.msc_chart.specs.Drawings.{Drawing}
use Rattle.msc_chart.specs.Lists.{Occurs, StandsAt}
use Rattle.msc_answer.specs.declared.tasks.ReadyArgs.{ReadyArgs}

-- the names of the instances that are ready
abbrev pub names_of : ReadyArgs → List (List ℕ)
names_of x = map (λ name. name.now) x.only.now

-- this is the first of the names that no instance has
pub record IsFirstUnknown (d : Drawing) (names : List (List ℕ)) (name : List ℕ) : Type 0 where
  pub place : ℕ
  pub stands : StandsAt names place name
  pub unknown : Occurs d.instances name → ⊥
  pub first : (k : ℕ) → k < place → (other : List ℕ) → StandsAt names k other → Occurs d.instances other

-- each name is that of an instance
abbrev pub AreInstances : Drawing → List (List ℕ) → Type 0
AreInstances d names = (name : List ℕ) → Occurs names name → Occurs d.instances name

-- of each instance it is said whether it is named
pub record AreNamedLines (d : Drawing) (names : List (List ℕ)) (lines : List Bool) : Type 0 where
  pub each : length lines ≡ length d.instances
  pub named : (i : ℕ) → i < length d.instances → IsTrue (get_or lines i false) ↔ Occurs names (get_or d.instances i [])

-- which instances are ready: without names all, else those that are named, and each name is one's
abbrev pub AreReady : Drawing → List (List ℕ) → Option (List Bool) → Type 0
AreReady d names None = names ≡ []
AreReady d names (Some lines) = (names ≢ []) × AreInstances d names × AreNamedLines d names lines
