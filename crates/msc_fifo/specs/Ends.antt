-- What contracts see of the ends of a queue.
use Rattle.std.specs.Prelude.{◌≡◌, ◌⊎◌, ℕ, ◌+◌, ◌<◌, ◌==◌, max, Bool, false, List, [], ◌∷◌, ◌++◌, length, sum, All, count_by}
use Rattle.msc_fifo.specs.declared.TheConstants.{QUOTA_LIMIT, SENDER_LIMIT}
use Rattle.msc_fifo.specs.declared.claim.Claim.{Claim}
use Rattle.msc_fifo.specs.declared.entry.Entry.{Entry}
use Rattle.msc_fifo.specs.declared.entry.Taken.{Taken}
use Rattle.msc_fifo.specs.declared.entry.Taken.TheVariants as took
use Rattle.msc_fifo.specs.Entries.{unended_of}
use Rattle.msc_fifo.specs.Identity.{QueueId}

-- an outlet: its queue, its sender's number, its quota, what it has put, whether it is closed, and
-- what it has claimed: a place for each message and then one for the end mark
pub record OutletState : Type 0 where
  pub queue : QueueId
  pub sender : ℕ
  pub quota : ℕ
  pub put : List ℕ
  pub closed : Bool
  pub claims : List Claim

-- an inlet: its queue, the number of its senders, what it has got, the clocks of these places (0 for
-- an end mark), and how many takes in a row have found nothing since then
pub record InletState : Type 0 where
  pub queue : QueueId
  pub senders : ℕ
  pub got : List Entry
  pub clocks : List ℕ
  pub idle : ℕ

-- an open outlet that has put nothing
abbrev pub new_outlet : QueueId → ℕ → ℕ → OutletState
new_outlet q i quota = record { queue = q; sender = i; quota = quota; put = []; closed = false; claims = [] }

-- new outlets with these quotas, of the senders k, k + 1 and so on
abbrev pub new_outlets : QueueId → ℕ → List ℕ → List OutletState
new_outlets q k [] = []
new_outlets q k (x ∷ xs) = new_outlet q k x ∷ new_outlets q (k + 1) xs

-- an inlet of n senders that has got nothing
abbrev pub new_inlet : QueueId → ℕ → InletState
new_inlet q n = record { queue = q; senders = n; got = []; clocks = []; idle = 0 }

-- more senders, or more messages in all quotas, than a queue may have
abbrev pub IsTooLarge : List ℕ → Type 0
IsTooLarge quotas = (SENDER_LIMIT < length quotas) ⊎ (QUOTA_LIMIT < sum quotas)

-- the outlet is open and below its quota
abbrev pub HasRoom : OutletState → Type 0
HasRoom o = (o.closed ≡ false) × (length o.put < o.quota)

-- the outlet is open and has put its quota
abbrev pub IsSpent : OutletState → Type 0
IsSpent o = (o.closed ≡ false) × (length o.put ≡ o.quota)

-- the greatest clock: clocks have 64 bits
abbrev pub greatest_clock : ℕ
greatest_clock = 18446744073709551615

-- a clock from which nothing can be offered any more
abbrev pub IsSpentClock : ℕ → Type 0
IsSpentClock clock = clock ≡ greatest_clock

-- what no call changes of an outlet
abbrev pub IsSameOutlet : OutletState → OutletState → Type 0
IsSameOutlet old new = (new.queue ≡ old.queue) × (new.sender ≡ old.sender) × (new.quota ≡ old.quota)

-- what no call changes of an inlet
abbrev pub IsSameInlet : InletState → InletState → Type 0
IsSameInlet old new = (new.queue ≡ old.queue) × (new.senders ≡ old.senders)

-- What a take with this clock tells of clocks. A message's place is the next one, and its clock n
-- raises the taker's; an end mark's place has the clock 0
abbrev pub Clocked : InletState → ℕ → Taken → InletState → Type 0
Clocked v clock (took.Message i m place now) w =
    (place ≡ length v.got) × ((n : ℕ) × (w.clocks ≡ v.clocks ++ n ∷ []) × (now ≡ max clock n))
Clocked v clock (took.Ended i) w = w.clocks ≡ v.clocks ++ 0 ∷ []
Clocked v clock took.Nothing w = w.clocks ≡ v.clocks

-- how many senders of the inlet's queue have no end mark among what it got
abbrev pub unended_in : InletState → ℕ
unended_in inlet = unended_of inlet.senders inlet.got

-- the outlets are those of the inlet's queue, each once, in any order
pub record AreOutletsOf (inlet : InletState) (outlets : List OutletState) : Type 0 where
  pub queue : All (λ o. o.queue ≡ inlet.queue) outlets
  pub count : length outlets ≡ inlet.senders
  pub once : (i : ℕ) → i < inlet.senders → count_by (λ o. o.sender == i) outlets ≡ 1
