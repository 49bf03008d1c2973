-- What is known of a queue once its ends are settled.
use Rattle.std.specs.Prelude.{◌≡◌, ℕ, ◌<◌, ◌≤◌, ◌==◌, true, false, if◌then◌else◌, List, [], ◌∷◌, ◌++◌, map, length, Option, Some, None, slice_get, slice_index}
use Rattle.msc_fifo.specs.declared.entry.Entry.{Entry}
use Rattle.msc_fifo.specs.declared.entry.Entry.TheVariants.{Message, Ended}
use Rattle.msc_fifo.specs.declared.claim.Claim.{Claim}
use Rattle.msc_fifo.specs.declared.accounts.Account.{Account}
use Rattle.msc_fifo.specs.declared.places.Place.{Place}
use Rattle.msc_fifo.specs.Claims.{is_message}
use Rattle.msc_fifo.specs.Entries.{sender_of, messages_of, has_ended, IsOrderly}
use Rattle.msc_fifo.specs.Ends.{OutletState, InletState}
use Rattle.msc_fifo.specs.Lists.{Occurs}

-- The account of an outlet, where the inlet got these entries: what was put is what was taken and
-- then what is left. Where the sender's end mark was taken, it had closed and nothing is left
pub record IsAccountOf (got : List Entry) (o : OutletState) (a : Account) : Type 0 where
  pub put : a.put ≡ o.put
  pub taken : a.taken ≡ messages_of o.sender got
  pub left : a.put ≡ a.taken ++ a.left
  pub closed : a.closed ≡ o.closed
  pub ended : has_ended o.sender got ≡ true → (a.closed ≡ true) × (a.left ≡ [])

-- the account of an outlet stands at its sender's number
abbrev pub HasAccount : List Account → List Entry → OutletState → Type 0
HasAccount accounts got o = (a : Account) × (slice_get accounts o.sender ≡ Some a) × IsAccountOf got o a

-- what was claimed, by places
abbrev pub entries_at : List Claim → List Entry
entries_at log = map (λ (c : Claim). c.entry) log

-- what an outlet has put, and then its end mark where it is closed
abbrev pub items_of : OutletState → List Entry
items_of o = map (λ (m : ℕ). Message o.sender m) o.put ++ (if o.closed then (Ended o.sender ∷ []) else [])

-- the claims of sender i, in order
abbrev pub claims_of : ℕ → List Claim → List Claim
claims_of i [] = []
claims_of i (c ∷ cs) = if sender_of c.entry == i then (c ∷ claims_of i cs) else claims_of i cs

-- the message of an entry; an end mark has none
abbrev pub message_of : Entry → Option ℕ
message_of (Message i m) = Some m
message_of (Ended i) = None

-- what is answered of a place that was claimed
abbrev pub place_of : Claim → Place
place_of c = record { sender = sender_of c.entry; message = message_of c.entry; clock = c.clock }

-- The places of a queue that were claimed, in order and without gaps. Each outlet's claims are its
-- part of them, for what it put and then its end mark; what was got is the items of the first places,
-- and the clocks that were read are theirs. The clock of a message's place is at least each offer
-- made for it or a place before it, and is the offer of some message; that of an end mark's is 0
pub record IsPlaced (inlet : InletState) (outlets : List OutletState) (log : List Claim) : Type 0 where
  pub numbered : (k : ℕ) (c : Claim) → slice_get log k ≡ Some c → c.place ≡ k
  pub orderly : IsOrderly inlet.senders (entries_at log)
  pub claims : (o : OutletState) → Occurs outlets o → o.claims ≡ claims_of o.sender log
  pub items : (o : OutletState) → Occurs outlets o → entries_at o.claims ≡ items_of o
  pub got : (rest : List Entry) × (entries_at log ≡ inlet.got ++ rest)
  pub clocks : (k : ℕ) (c : Claim) → k < length inlet.clocks → slice_get log k ≡ Some c → c.clock ≡ slice_index inlet.clocks k
  pub covers : (c d : Claim) → Occurs log c → is_message c.entry ≡ true → Occurs log d → d.place ≤ c.place → d.offer ≤ c.clock
  pub offered : (c : Claim) → Occurs log c → is_message c.entry ≡ true
      → (d : Claim) × Occurs log d × (is_message d.entry ≡ true) × (d.offer ≡ c.clock)
  pub marks : (c : Claim) → Occurs log c → is_message c.entry ≡ false → c.clock ≡ 0

-- these are the places of the queue whose ends were these
pub record IsSettled (inlet : InletState) (outlets : List OutletState) (places : List Place) : Type 0 where
  pub log : List Claim
  pub is_log : IsPlaced inlet outlets log
  pub places_are : places ≡ map place_of log
