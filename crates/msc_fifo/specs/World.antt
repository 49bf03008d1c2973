-- The words of a queue, and what was claimed there. This is our own, under atomic_table: the claim
-- word counts the places that were claimed, the clock word is the greatest offer, and each place has
-- a word for its entry and one for its clock, 0 while there is none.
use Rattle.std.specs.Prelude.{◌≡◌, ◌≢◌, ◌⊎◌, ℕ, ◌+◌, ◌*◌, ◌<◌, ◌≤◌, ◌==◌, true, if◌then◌else◌, List, [], ◌∷◌, map, slice_index, slice_get, Some}
use Rattle.msc_fifo.specs.declared.TheConstants.{QUOTA_LIMIT, SENDER_LIMIT}
use Rattle.msc_fifo.specs.declared.entry.Entry.{Entry}
use Rattle.msc_fifo.specs.declared.entry.Entry.TheVariants.{Message, Ended}
use Rattle.msc_fifo.specs.declared.claim.Claim.{Claim}
use Rattle.msc_fifo.specs.Claims.{is_message}
use Rattle.msc_fifo.specs.Entries.{sender_of}

-- what was claimed at a place: the entry, and the offer that was made for it, 0 for an end mark
pub record Slot : Type 0 where
  pub entry : Entry
  pub offer : ℕ

-- a place, and what was claimed there
pub record Spot : Type 0 where
  pub place : ℕ
  pub slot : Slot

-- a slot of this entry and offer
abbrev pub slot : Entry → ℕ → Slot
slot e n = record { entry = e; offer = n }

-- a spot of this place and slot
abbrev pub spot : ℕ → Slot → Spot
spot k x = record { place = k; slot = x }

-- a claim without its clock
abbrev pub spot_of : Claim → Spot
spot_of c = spot c.place (slot c.entry c.offer)

-- the entries that were claimed, by their places
abbrev pub entries : List Slot → List Entry
entries log = map (λ (x : Slot). x.entry) log

-- what sender i claimed, where the first place of the list is k
abbrev pub own : ℕ → ℕ → List Slot → List Spot
own i k [] = []
own i k (x ∷ xs) = if sender_of x.entry == i then (spot k x ∷ own i (k + 1) xs) else own i (k + 1) xs

-- the most places that a queue has: one for each message in all quotas, and one for each end mark
abbrev pub most_places : ℕ
most_places = QUOTA_LIMIT + SENDER_LIMIT

-- messages have numbers below this: they have 32 bits
abbrev pub message_numbers : ℕ
message_numbers = 4294967296

-- the word of an entry
abbrev pub code : Entry → ℕ
code (Message i m) = 1 + 2 * (i * message_numbers + m)
code (Ended i) = 2 * (i + 1)

-- the entry of a sender within the limit, with a message of 32 bits
abbrev pub IsSmall : Entry → Type 0
IsSmall (Message i m) = (i < SENDER_LIMIT) × (m < message_numbers)
IsSmall (Ended i) = i < SENDER_LIMIT

-- All that the rule speaks of: the inlet's seat, the senders that were made with their seats and all
-- their offers, what was claimed by places, the words of the places, and the clock word
pub record World : Type 0 where
  pub reader : ℕ
  pub made : ℕ
  pub seat : ℕ → ℕ
  pub offered : ℕ → List ℕ
  pub log : List Slot
  pub item : ℕ → ℕ
  pub clk : ℕ → ℕ
  pub clock : ℕ

-- the words: the claim word, the clock word, and then for each place its entry and its clock
abbrev pub world : ℕ → ℕ → (ℕ → ℕ) → (ℕ → List ℕ) → List Slot → List ℕ → World
world reader made seat offered log words = record {
  reader = reader;
  made = made;
  seat = seat;
  offered = offered;
  log = log;
  item = λ k. slice_index words (k + k + 2);
  clk = λ k. slice_index words (k + k + 3);
  clock = slice_index words 1;
}

-- a clock is at least every offer at places up to k
abbrev pub Covers : List Slot → ℕ → ℕ → Type 0
Covers log k n = (j : ℕ) (x : Slot) → j ≤ k → slice_get log j ≡ Some x → x.offer ≤ n

-- some sender made this offer
abbrev pub Offered : World → ℕ → Type 0
Offered w n = (i : ℕ) × (i < w.made) × ((k : ℕ) × (slice_get (w.offered i) k ≡ Some n))

-- a place has no entry yet, or the one that was claimed there
abbrev pub Holds : List Slot → ℕ → ℕ → Type 0
Holds log k n = (n ≡ 0) ⊎ ((x : Slot) × (slice_get log k ≡ Some x) × (n ≡ code x.entry) × IsSmall x.entry)

-- a place has no clock yet, or one that a message's place may have
abbrev pub IsDated : World → ℕ → ℕ → Type 0
IsDated w k n = (n ≡ 0) ⊎ ((x : Slot) × (slice_get w.log k ≡ Some x) × (is_message x.entry ≡ true) × Covers w.log k n × Offered w n)

-- the entry of a claim is stored, beside its clock
abbrev pub IsStored : World → Claim → Type 0
IsStored w c = (w.item c.place ≢ 0) × (w.clk c.place ≡ c.clock)
