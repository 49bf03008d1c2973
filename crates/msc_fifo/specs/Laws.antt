-- Laws of the ends of a queue, for the crates that rest on this one.
use Rattle.std.specs.Prelude.{◌≡◌, ℕ, ◌+◌, List, [], ◌∷◌, length, All}
use Rattle.msc_fifo.specs.Ends.{OutletState, InletState, AreOutletsOf}

-- the outlets are of the senders k, k + 1 and so on
pub data AreNumberedFrom : ℕ → List OutletState → Type 0 where
  none_left : (k : ℕ) → AreNumberedFrom k []
  one_more : (k : ℕ) (o : OutletState) (os : List OutletState) → o.sender ≡ k → AreNumberedFrom (k + 1) os → AreNumberedFrom k (o ∷ os)

-- outlets of the inlet's queue that are numbered from 0 on, as many as it has senders, are all its
-- outlets, each once
abbrev pub NumberedOutletsAreWhole : Type 0
NumberedOutletsAreWhole =
    (inlet : InletState) (os : List OutletState) → All (λ o. o.queue ≡ inlet.queue) os → AreNumberedFrom 0 os
    → length os ≡ inlet.senders → AreOutletsOf inlet os
