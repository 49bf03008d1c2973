-- The events that the choice of the next one depends on, as rows of bits.
use Rattle.std.specs.Prelude.{◌≡◌, ℕ, ◌<◌, ◌↔◌, List, IsTrue}
use Rattle.msc_chart.specs.Charts.{is_input, is_output}
use Rattle.msc_chart.specs.Orders.{WiredChart, queue}
use Rattle.msc_chart.specs.Witness.{IsFree, IsHeld, IsPassedOn}
use Rattle.msc_race.specs.declared.choosing.Choice.{Choice}
use Rattle.msc_race.specs.declared.remaining.Remaining.{Remaining}
use Rattle.bit_rows.specs.Rows.{has, AreApartTo, IsFirstCommon}
use Rattle.msc_race.specs.Rows.{IsRow}
use Rattle.msc_race.specs.Choices.{wired_chart}

-- the row holds the numbers with a property
abbrev pub HoldsExactly : List ℕ → (ℕ → Type 0) → Type 0
HoldsExactly row P = (y : ℕ) → IsTrue (has row y) ↔ P y

-- the row holds the numbers below k with a property
abbrev pub HoldsBelow : List ℕ → (ℕ → Type 0) → ℕ → Type 0
HoldsBelow row P k = (y : ℕ) → IsTrue (has row y) ↔ (P y × (y < k))

-- a free event that is not held
abbrev pub IsUnheld : WiredChart → ℕ → ℕ → Type 0
IsUnheld chart e x = IsFree chart e x × (IsHeld chart e x → ⊥)

-- Where e is an input: an output to the queue of e that is passed on. Only such an e leaves held
-- outputs, and all of these are in its queue.
abbrev pub IsPassedOnWith : WiredChart → ℕ → ℕ → Type 0
IsPassedOnWith chart e x =
    IsPassedOn chart e x × IsTrue (is_input chart.events e) × (queue chart x ≡ queue chart e)

-- a free output to the queue of e, an input
abbrev pub IsFreeWith : WiredChart → ℕ → ℕ → Type 0
IsFreeWith chart e x =
    IsTrue (is_output chart.events x) × IsFree chart e x × IsTrue (is_input chart.events e) × (queue chart x ≡ queue chart e)

-- the row holds the numbers with a property but those below k that have another
abbrev pub HoldsOthers : List ℕ → (ℕ → Type 0) → (ℕ → Type 0) → ℕ → Type 0
HoldsOthers row P Q k = (y : ℕ) → IsTrue (has row y) ↔ (P y × (y < k → Q y → ⊥))

-- The rows hold the free events, those of them that are not held as far as that is told of the
-- events below k, and of these those that are passed on with e.
pub record AreToldBelow (c : Choice) (r : Remaining) (k : ℕ) : Type 0 where
  pub free : (y : ℕ) → IsTrue (has r.free.items y) ↔ IsFree (wired_chart c) c.e y
  pub unheld : HoldsOthers r.unheld.items (IsFree (wired_chart c) c.e) (IsHeld (wired_chart c) c.e) k
  pub passed : HoldsBelow r.passed.items (IsPassedOnWith (wired_chart c) c.e) k

-- the rows hold the free events, those of them that are not held, and those that are passed on with
-- e
pub record AreTold (c : Choice) (r : Remaining) : Type 0 where
  pub free : HoldsExactly r.free.items (IsFree (wired_chart c) c.e)
  pub unheld : HoldsExactly r.unheld.items (IsUnheld (wired_chart c) c.e)
  pub passed : HoldsExactly r.passed.items (IsPassedOnWith (wired_chart c) c.e)

-- rows for the numbers below n
pub record AreRows (n : ℕ) (r : Remaining) : Type 0 where
  pub free : IsRow n r.free.items
  pub unheld : IsRow n r.unheld.items
  pub passed : IsRow n r.passed.items

-- it is known where what is left of the free events, and of what is passed on, begins
pub record HasFirstWords (r : Remaining) (left : List ℕ) : Type 0 where
  pub free : IsFirstCommon r.free.items left r.free_from
  pub passed : IsFirstCommon r.passed.items left r.passed_from

-- nothing of both is left in the words before
pub record AreLeftFrom (r : Remaining) (left : List ℕ) : Type 0 where
  pub free : AreApartTo r.free.items left r.free_from
  pub passed : AreApartTo r.passed.items left r.passed_from

-- the rows are the same
pub record AreSameRows (old new : Remaining) : Type 0 where
  pub free : new.free ≡ old.free
  pub unheld : new.unheld ≡ old.unheld
  pub passed : new.passed ≡ old.passed
