-- What is left of the outlets once their tickets were taken in.
use Rattle.std.specs.Prelude.{◌≡◌, ◌≤◌, List, [], ◌∷◌, length}
use Rattle.msc_fifo.specs.declared.parts.Part.{Part}
use Rattle.msc_fifo.specs.Ends.{OutletState}
use Rattle.msc_fifo.specs.Lists.{Each}
use Rattle.msc_fifo.specs.Views.{IsProper}

-- what is left of an outlet
pub record IsPartOf (o : OutletState) (p : Part) : Type 0 where
  pub sender : p.sender ≡ o.sender
  pub put : p.put.items ≡ o.put
  pub closed : p.closed ≡ o.closed
  pub room : length o.put ≤ p.room
  pub proper : Each IsProper o.claims

-- what is left of outlets, in their order
abbrev pub ArePartsOf : List OutletState → List Part → Type 0
ArePartsOf [] [] = Unit {0}
ArePartsOf [] (p ∷ ps) = ⊥
ArePartsOf (o ∷ os) [] = ⊥
ArePartsOf (o ∷ os) (p ∷ ps) = IsPartOf o p × ArePartsOf os ps
