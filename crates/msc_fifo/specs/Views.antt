-- What the ends of a queue know, and the rule of its words. An end holds a ticket, a seat of the
-- table: a token of no bytes, whose view is what that end knows.
use Rattle.std.specs.Prelude.{◌≡◌, ◌≢◌, ◌⊎◌, ℕ, ◌+◌, ◌-◌, ◌<◌, ◌≤◌, Bool, true, false, if◌then◌else◌, List, [], ◌∷◌, ◌++◌, map, length, slice_index, slice_get, Some}
use mathlib.Core.Option.{some}
use lib.ListN.{get_elem?}
use Rattle.atomic_table.specs.Table.{State}
use Rattle.atomic_table.specs.declared.shared.Seat.{Seat}
use Rattle.atomic_table.specs.declared.owned.Table.{Table}
use Rattle.msc_fifo.specs.declared.entry.Entry.{Entry}
use Rattle.msc_fifo.specs.declared.claim.Claim.{Claim}
use Rattle.msc_fifo.specs.declared.rule.Sender.{Sender}
use Rattle.msc_fifo.specs.declared.rule.TicketView.{TicketView}
use Rattle.msc_fifo.specs.Claims.{is_message}
use Rattle.msc_fifo.specs.Entries.{sender_of, messages_of, has_ended, IsOrderly}
use Rattle.msc_fifo.specs.Identity.{QueueId}
use Rattle.msc_fifo.specs.World.{most_places, Slot, slot, spot_of, entries, own, World, world, Offered, Holds, IsDated, IsStored}
use Rattle.msc_fifo.specs.Lists.{Each}

-- the claim isn't stored yet
pub record IsPending (w : World) (x : Sender) (c : Claim) : Type 0 where
  pub at : slice_get w.log c.place ≡ Some (slot c.entry c.offer)
  pub mine : sender_of c.entry ≡ x.from
  pub inside : c.place < x.places
  pub empty : w.item c.place ≡ 0
  pub shown : w.clk c.place ≡ x.shown
  pub dated : IsDated w c.place c.clock

-- what a seat knows of a sender is so
pub record IsSender (places : ℕ) (w : World) (id : ℕ) (x : Sender) : Type 0 where
  pub seat : w.seat x.from ≡ id
  pub made : x.from < w.made
  pub places_are : x.places ≡ places
  pub put : x.put ≡ messages_of x.from (entries w.log)
  pub closed : x.closed ≡ has_ended x.from (entries w.log)
  pub claims : map spot_of (x.claims ++ x.pending) ≡ own x.from 0 w.log
  pub offers : x.offers ≡ w.offered x.from
  pub ready : x.ready ≤ w.clock
  pub stored : Each (IsStored w) x.claims
  pub pending : Each (IsPending w x) x.pending

-- what the inlet knows is so
pub record IsReader (places : ℕ) (w : World) (id : ℕ) (v : TicketView) : Type 0 where
  pub reader : w.reader ≡ id
  pub made : v.made ≡ w.made
  pub places_are : v.places ≡ places
  pub got : (rest : List Entry) × (entries w.log ≡ v.got ++ rest)
  pub stored : (k : ℕ) → k < length v.got → w.item k ≢ 0
  pub few : length v.clocks ≤ length v.got
  pub clocks : (k : ℕ) → k < length v.clocks → w.clk k ≡ slice_index v.clocks k

-- what a seat knows is so
abbrev pub Agrees : ℕ → World → ℕ → TicketView → Type 0
Agrees places w id v = (v.gets ≡ true → IsReader places w id v) × Each (IsSender places w id) v.senders

-- what holds whatever the seats know
pub record Sound (places : ℕ) (w : World) : Type 0 where
  pub orderly : IsOrderly w.made (entries w.log)
  pub cells : (k : ℕ) → k < places → Holds w.log k (w.item k)
  pub dated : (k : ℕ) → k < places → IsDated w k (w.clk k)
  pub above : (k : ℕ) (x : Slot) → slice_get w.log k ≡ Some x → x.offer ≤ w.clock
  pub clock : (w.clock ≡ 0) ⊎ Offered w w.clock

-- the places that the seats may still claim
abbrev pub rooms_of : List TicketView → ℕ
rooms_of [] = 0
rooms_of (v ∷ vs) = v.room + rooms_of vs

-- One seat receives, and each sender that was made has one seat
pub record Kept (places : ℕ) (s : State (Unit {0}) TicketView) : Type 0 where
  pub reader : ℕ
  pub made : ℕ
  pub seat : ℕ → ℕ
  pub offered : ℕ → List ℕ
  pub log : List Slot
  pub wide : length s.words ≡ places + places + 2
  pub small : places ≤ most_places
  pub claimed : slice_index s.words 0 ≡ length log
  pub rooms : rooms_of s.views + length log ≡ places
  pub sound : Sound places (world reader made seat offered log s.words)
  pub each : (id : ℕ) (v : TicketView) → get_elem? s.views id ≡ some v → Agrees places (world reader made seat offered log s.words) id v

-- the inlet has made some senders, has got these entries and clocks, and has places to give away
abbrev pub receives : ℕ → ℕ → ℕ → List Entry → List ℕ → TicketView
receives places room made got clocks = record { gets = true; made = made; places = places; got = got; clocks = clocks; room = room; senders = [] }

-- a sender that has put nothing
abbrev pub new_sender : ℕ → ℕ → Sender
new_sender places i = record { from = i; places = places; put = []; closed = false; claims = []; pending = []; offers = []; ready = 0; shown = 0 }

-- an outlet that may claim so many places more
abbrev pub outlet_view : ℕ → Sender → TicketView
outlet_view room x = record { gets = false; made = 0; places = 0; got = []; clocks = []; room = room; senders = x ∷ [] }

-- the inlet has learned of an outlet
abbrev pub beside : TicketView → TicketView → TicketView
beside v w = record v { room = v.room + w.room; senders = v.senders ++ w.senders }

-- the view of a ticket that was taken in
abbrev pub nobody : TicketView
nobody = record { gets = false; made = 0; places = 0; got = []; clocks = []; room = 0; senders = [] }

-- the offers of a list of claims: an end mark makes none
abbrev pub offers_of : List Claim → List ℕ
offers_of [] = []
offers_of (c ∷ cs) = if is_message c.entry then (c.offer ∷ offers_of cs) else offers_of cs

-- a sender between two calls
abbrev pub resting : ℕ → ℕ → List ℕ → Bool → List Claim → Sender
resting places i put closed claims = record { from = i; places = places; put = put; closed = closed; claims = claims; pending = []; offers = offers_of claims; ready = 0; shown = 0 }

-- how many places the outlet may still claim
abbrev pub left_of : ℕ → List ℕ → Bool → ℕ
left_of quota put closed = (quota - length put) + (if closed then 0 else 1)

-- the view is the inlet's, between two calls
abbrev pub Receives : TicketView → ℕ → ℕ → List Entry → Type 0
Receives v places made got = (v.gets ≡ true) × (v.made ≡ made) × (v.got ≡ got) × (v.senders ≡ []) × (length v.clocks ≡ length got) × (v.places ≡ places)

-- the claims of the first sender: of an outlet's view its own
abbrev pub claims_in : List Sender → List Claim
claims_in [] = []
claims_in (x ∷ xs) = x.claims

-- a message's claim has an offer of at least 1, and its clock is at least the offer
abbrev pub IsProper : Claim → Type 0
IsProper c = is_message c.entry ≡ true → (0 < c.offer) × (c.offer ≤ c.clock)

-- what an end holds of the rule
abbrev pub Ticket : Type 0
Ticket = Seat (Unit {0}) TicketView

-- what the ticket knows
abbrev pub knows : Ticket → TicketView
knows t = t.me.0

-- the ticket is of this row, whose key is the number of its places
abbrev pub IsTicketOf : {P A : Type 0} → Table (Unit {0}) TicketView ℕ P A → Ticket → Type 0
IsTicketOf row t = (t.table_id ≡ row.shared.table_id) × (t.me.1 ≡ []) × (row.shared.table_id.words ≡ row.shared.key + row.shared.key + 2) × (row.shared.key ≤ most_places)

-- the queue of a row
abbrev pub queue_id : {P A : Type 0} → Table (Unit {0}) TicketView ℕ P A → QueueId
queue_id row = record { table = row.shared.table_id }
