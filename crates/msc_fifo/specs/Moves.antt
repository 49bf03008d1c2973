-- The moves of the ends of a queue: what each step on its words tells.
use Rattle.std.specs.Prelude.{◌≡◌, ◌⊎◌, ℕ, ◌+◌, ◌-◌, ◌<◌, ◌≤◌, true, false, List, [], ◌∷◌, ◌++◌, map, length, slice_index, slice_get, Some}
use Rattle.atomic_table.specs.Table.{Step, Me}
use Rattle.msc_fifo.specs.declared.entry.Entry.{Entry}
use Rattle.msc_fifo.specs.declared.entry.Entry.TheVariants.{Message, Ended}
use Rattle.msc_fifo.specs.declared.claim.Claim.{Claim}
use Rattle.msc_fifo.specs.declared.rule.Sender.{Sender}
use Rattle.msc_fifo.specs.declared.rule.TicketView.{TicketView}
use Rattle.msc_fifo.specs.Claims.{claim, is_message}
use Rattle.msc_fifo.specs.Entries.{sender_of, messages_of, has_ended, IsOrderly}
use Rattle.msc_fifo.specs.Lists.{Occurs, Each}
use Rattle.msc_fifo.specs.World.{Slot, spot_of, entries, own, code, IsSmall, Covers}
use Rattle.msc_fifo.specs.Views.{outlet_view, resting}

-- what a seat knows and holds; it never holds a slot
abbrev pub Seated : Type 0
Seated = Me (Unit {0}) TicketView

-- the view with a change of its senders
abbrev pub with_senders : (Sender → Sender) → TicketView → TicketView
with_senders f v = record v { senders = map f v.senders }

-- what is known of a sender after it made an offer
abbrev pub after_offer : ℕ → Sender → Sender
after_offer n x = record x { offers = x.offers ++ n ∷ []; ready = n }

-- after a claim
abbrev pub after_claim : ℕ → Entry → Sender → Sender
after_claim k (Message i m) x = record x { put = x.put ++ m ∷ []; pending = claim k (Message i m) x.ready 0 ∷ []; shown = 0 }
after_claim k (Ended i) x = record x { closed = true; pending = claim k (Ended i) 0 0 ∷ []; shown = 0 }

-- after the clock of the place was read
abbrev pub after_date : ℕ → Sender → Sender
after_date n x = record x { pending = map (λ (c : Claim). claim c.place c.entry c.offer n) x.pending }

-- after the clock of the place was stored
abbrev pub after_show : ℕ → Sender → Sender
after_show n x = record x { shown = n }

-- after the entry of the place was stored
abbrev pub after_store : Sender → Sender
after_store x = record x { claims = x.claims ++ x.pending; pending = []; ready = 0; shown = 0 }

-- an offer was made
abbrev pub OffersIt : Step (Unit {0}) → Seated → ℕ → Seated → Type 0
OffersIt st m found m' = (m'.0 ≡ with_senders (after_offer st.first) m.0) × (m'.1 ≡ m.1)

-- a place was claimed for the entry
abbrev pub ClaimsIt : Entry → Step (Unit {0}) → Seated → ℕ → Seated → Type 0
ClaimsIt e st m found m' = (m'.0 ≡ record (with_senders (after_claim found e) m.0) { room = m.0.room - 1 }) × (m'.1 ≡ m.1) × Each (λ (x : Sender). found < x.places) m.0.senders

-- the clock of the place was read
abbrev pub DatesIt : Step (Unit {0}) → Seated → ℕ → Seated → Type 0
DatesIt st m found m' = (m'.0 ≡ with_senders (after_date found) m.0) × (m'.1 ≡ m.1) × Each (λ (x : Sender). x.ready ≤ found) m.0.senders

-- the clock of the place was stored
abbrev pub ShowsIt : Step (Unit {0}) → Seated → ℕ → Seated → Type 0
ShowsIt st m found m' = (m'.0 ≡ with_senders (after_show st.first) m.0) × (m'.1 ≡ m.1)

-- the entry of the place was stored
abbrev pub StoresIt : Step (Unit {0}) → Seated → ℕ → Seated → Type 0
StoresIt st m found m' = (m'.0 ≡ with_senders after_store m.0) × (m'.1 ≡ m.1)

-- the clocks that are known at once: that of an end mark's place
abbrev pub clocks_at_once : Entry → List ℕ
clocks_at_once (Message i m) = []
clocks_at_once (Ended i) = 0 ∷ []

-- the inlet takes the entry
abbrev pub Takes : TicketView → Entry → TicketView → Type 0
Takes v e w = (w ≡ record v { got = v.got ++ e ∷ []; clocks = v.clocks ++ clocks_at_once e }) × (sender_of e < v.made) × (has_ended (sender_of e) v.got ≡ false)

-- the next place holds nothing yet, or the entry that is taken
abbrev pub LooksAt : Step (Unit {0}) → Seated → ℕ → Seated → Type 0
LooksAt st m found m' = (((found ≡ 0) × (m'.0 ≡ m.0)) ⊎ ((e : Entry) × (found ≡ code e) × IsSmall e × Takes m.0 e m'.0)) × (m'.1 ≡ m.1)

-- the clock of the place that was taken
abbrev pub LearnsIt : Step (Unit {0}) → Seated → ℕ → Seated → Type 0
LearnsIt st m found m' = (m'.0 ≡ record m.0 { clocks = m.0.clocks ++ found ∷ [] }) × (m'.1 ≡ m.1)

-- what the claim word tells once the seats are joined: all that was claimed, and the clocks of the places
pub record Told (v : TicketView) (count : ℕ) : Type 0 where
  pub log : List Slot
  pub clk : ℕ → ℕ
  pub offered : ℕ → List ℕ
  pub count_is : count ≡ length log
  pub within : count ≤ v.places
  pub orderly : IsOrderly v.made (entries log)
  pub got : (rest : List Entry) × (entries log ≡ v.got ++ rest)
  pub clocks : (k : ℕ) → k < length v.clocks → clk k ≡ slice_index v.clocks k
  pub dated : (k : ℕ) → k < count → (clk k ≡ 0) ⊎ (Covers log k (clk k) × ((i : ℕ) × (i < v.made) × ((j : ℕ) × (slice_get (offered i) j ≡ Some (clk k)))))
  pub marks : (k : ℕ) (x : Slot) → slice_get log k ≡ Some x → is_message x.entry ≡ false → clk k ≡ 0
  pub senders : Each (λ (x : Sender). (x.from < v.made) × (x.put ≡ messages_of x.from (entries log)) × (x.closed ≡ has_ended x.from (entries log)) × (map spot_of (x.claims ++ x.pending) ≡ own x.from 0 log) × (x.offers ≡ offered x.from) × Each (λ (c : Claim). clk c.place ≡ c.clock) x.claims) v.senders

-- the claim is one that is known of some sender
abbrev pub IsClaimOf : Claim → List Sender → Type 0
IsClaimOf c xs = (x : Sender) × Occurs xs x × Occurs x.claims c

-- the entry of a place was read: it is that of the claim that is known of it
abbrev pub ReadsItsEntry : Step (Unit {0}) → Seated → ℕ → Seated → Type 0
ReadsItsEntry st m found m' = (m' ≡ m) × ((c : Claim) → IsClaimOf c m.0.senders → st.word ≡ c.place + c.place + 2 → (found ≡ code c.entry) × IsSmall c.entry)

-- the clock of a place was read: it is that of the claim that is known of it
abbrev pub ReadsItsClock : Step (Unit {0}) → Seated → ℕ → Seated → Type 0
ReadsItsClock st m found m' = (m' ≡ m) × ((c : Claim) → IsClaimOf c m.0.senders → st.word ≡ c.place + c.place + 3 → found ≡ c.clock)

-- the claim word was read
abbrev pub SettlesIt : Step (Unit {0}) → Seated → ℕ → Seated → Type 0
SettlesIt st m found m' = (m' ≡ m) × Told m.0 found

-- the view of an open outlet at rest, which may still claim a place, and the entry is its sender's
abbrev pub MayClaim : ℕ → TicketView → Entry → Type 0
MayClaim places v e = (room : ℕ) × (i : ℕ) × (put : List ℕ) × (claims : List Claim) × (v ≡ outlet_view room (resting places i put false claims)) × (0 < room) × (sender_of e ≡ i)

-- what is known of a sender once it has put a message with its offer, at a place with a clock
abbrev pub after_put : Entry → ℕ → ℕ → ℕ → Sender → Sender
after_put e offer place clock x = after_store (after_show clock (after_date clock (after_claim place e (after_offer offer x))))

-- what is known of a sender once it has put its end mark at a place
abbrev pub after_mark : Entry → ℕ → Sender → Sender
after_mark e place x = after_store (after_claim place e x)

-- the view of an open outlet before and after a claim that makes this of its sender
abbrev pub Makes : ℕ → (Sender → Sender) → TicketView → TicketView → Type 0
Makes places f v w = (room : ℕ) (i : ℕ) (put : List ℕ) (claims : List Claim) → v ≡ outlet_view room (resting places i put false claims) → w ≡ outlet_view (room - 1) (f (resting places i put false claims))
