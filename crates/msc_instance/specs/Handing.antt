-- What the code keeps while it makes the queues of a chart and hands out their ends.
use Rattle.std.specs.Prelude.{◌≡◌, ℕ, ◌+◌, ◌*◌, ◌<◌, ◌≤◌, ◌&&◌, cond, List, [], ◌∷◌, ◌++◌, length, get_or, map, take, drop, filter, All, count_by, nat_eq, nat_lt}
use Rattle.std.specs.List.{range_with_len}
use Rattle.msc_chart.specs.declared.queue.Queues.{Queues}
use Rattle.msc_chart.specs.Drawings.{Drawing, sender_of, receiver_of}
use Rattle.msc_chart.specs.Orders.{queue_of}
use Rattle.msc_fifo.specs.Identity.{QueueId}
use Rattle.msc_fifo.specs.Ends.{OutletState, new_outlet, new_outlets, new_inlet}
use Rattle.msc_execution.specs.Roles.{EndLists, NumberedOutlet, NumberedInlet, role}
use Rattle.msc_execution.specs.Fits.{no_ends, wired_below}
use Rattle.msc_instance.specs.declared.ends.InstanceEnds.{InstanceEnds}
use Rattle.msc_instance.specs.Views.{ends_of}

-- where a table counts message m: it has a row for each queue, and there a place for each instance
abbrev pub table_place : Queues → Drawing → ℕ → ℕ
table_place queues d m = queue_of queues d m * length d.instances + sender_of d m

-- the table has the counts of the messages below n
abbrev pub AreCounted : Queues → Drawing → ℕ → List ℕ → Type 0
AreCounted queues d n counts =
    (k : ℕ) → k < length counts → get_or counts k 0
    ≡ count_by (λ m. nat_eq (table_place queues d m) k) (range_with_len 0 n)

-- the list has the receiver of each queue that has a message below n
abbrev pub AreReceivers : Queues → Drawing → ℕ → List ℕ → Type 0
AreReceivers queues d n receivers = (m : ℕ) → m < n
    → get_or receivers (queue_of queues d m) 0 ≡ receiver_of d m

-- how many of these quotas are of senders
abbrev pub senders_among : List ℕ → ℕ
senders_among quotas = count_by (nat_lt 0) quotas

-- the ends of instance i
abbrev pub ends_at : List InstanceEnds → ℕ → EndLists
ends_at all i = get_or (map ends_of all) i no_ends

-- the outlet that instance i gets of queue q, where these are the quotas of all instances
abbrev pub outlet_for : QueueId → ℕ → List ℕ → ℕ → List NumberedOutlet
outlet_for id q quotas i =
    cond (nat_lt 0 (get_or quotas i 0)) ((
      q,
      new_outlet id (senders_among (take i quotas))
          (get_or quotas i 0),
    ) ∷ []) []

-- the inlet that instance i gets of it, where there is a sender
abbrev pub inlet_for : QueueId → ℕ → List ℕ → ℕ → ℕ → List NumberedInlet
inlet_for id q quotas receiver i =
    cond (nat_lt 0 (senders_among quotas) && nat_eq receiver i)
    ((q, new_inlet id (senders_among quotas)) ∷ []) []

-- all are of this architecture
abbrev pub AreUnder : Queues → List InstanceEnds → Type 0
AreUnder queues all = All (λ e. e.queues ≡ queues) all

-- The outlets of queue q are being handed out, and the instances below n have theirs. Those that
-- are left are for the others.
pub record IsHandingOut (id : QueueId) (q : ℕ) (quotas : List ℕ) (old new : List InstanceEnds)
    (left : List OutletState) (n : ℕ) : Type 0 where
  pub next : left ≡ new_outlets id (senders_among (take n quotas))
      (filter (nat_lt 0) (drop n quotas))
  pub given : (i : ℕ) → i < n → (ends_at new i).outlets ≡ (ends_at old i).outlets
      ++ outlet_for id q quotas i
  pub waiting : (i : ℕ) → n ≤ i → (ends_at new i).outlets ≡ (ends_at old i).outlets
  pub inlets : (i : ℕ) → (ends_at new i).inlets ≡ (ends_at old i).inlets
  pub under : (queues : Queues) → AreUnder queues old → AreUnder queues new

-- the ends of queue q were handed out: outlets to those with a quota, the inlet to the receiver
pub record AreHandedOut (q : ℕ) (quotas : List ℕ) (receiver : ℕ)
    (old new : List InstanceEnds) : Type 0 where
  pub id : QueueId
  pub outlets : (i : ℕ) → i < length old → (ends_at new i).outlets ≡ (ends_at old i).outlets
      ++ outlet_for id q quotas i
  pub inlets : (i : ℕ) → i < length old
      → (ends_at new i).inlets ≡ (ends_at old i).inlets ++ inlet_for id q quotas receiver i
  pub under : (queues : Queues) → AreUnder queues old → AreUnder queues new

-- the ends of the queues below n were handed out
pub record AreWiredBelow (queues : Queues) (d : Drawing) (n : ℕ) (all : List InstanceEnds) : Type 0
  where
    pub many : length all ≡ length d.instances
    pub under : AreUnder queues all
    pub id : ℕ → QueueId
    pub each : (i : ℕ) → i < length all → ends_at all i ≡ wired_below id (role queues d i) n
