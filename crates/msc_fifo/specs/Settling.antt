-- How a queue is settled: what the joined ticket knows, and what the places show.
use Rattle.std.specs.Prelude.{◌≡◌, ℕ, ◌<◌, List, [], ◌∷◌, ◌++◌, length, slice_get, Some}
use Rattle.msc_fifo.specs.declared.claim.Claim.{Claim}
use Rattle.msc_fifo.specs.declared.rule.Sender.{Sender}
use Rattle.msc_fifo.specs.declared.rule.TicketView.{TicketView}
use Rattle.msc_fifo.specs.declared.places.Place.{Place}
use Rattle.msc_fifo.specs.Ends.{OutletState}
use Rattle.msc_fifo.specs.Settlement.{place_of}
use Rattle.msc_fifo.specs.Views.{offers_of}
use Rattle.msc_fifo.specs.Moves.{IsClaimOf}

-- each place that was claimed by one of these senders is answered as its claim says
abbrev pub AreShownIn : List Sender → List Place → Type 0
AreShownIn xs ps = (c : Claim) → IsClaimOf c xs → c.place < length ps → slice_get ps c.place ≡ Some (place_of c)

-- what the joined ticket knows of an outlet
pub record IsSenderOf (o : OutletState) (x : Sender) : Type 0 where
  pub from : x.from ≡ o.sender
  pub put : x.put ≡ o.put
  pub closed : x.closed ≡ o.closed
  pub claims : x.claims ≡ o.claims
  pub pending : x.pending ≡ []
  pub offers : x.offers ≡ offers_of o.claims

-- the joined ticket knows these outlets, in this order
abbrev pub AreSendersOf : List OutletState → List Sender → Type 0
AreSendersOf [] [] = Unit {0}
AreSendersOf [] (x ∷ xs) = ⊥
AreSendersOf (o ∷ os) [] = ⊥
AreSendersOf (o ∷ os) (x ∷ xs) = IsSenderOf o x × AreSendersOf os xs

-- the inlet's view before and after it has taken in an outlet's ticket
abbrev pub HandsOver : OutletState → TicketView → TicketView → Type 0
HandsOver o v w = (x : Sender) × (room : ℕ) × IsSenderOf o x × (w ≡ record v { room = room; senders = v.senders ++ x ∷ [] })
