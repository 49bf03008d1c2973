-- What the code keeps while it tells whether ends fit an instance.
use Rattle.std.specs.Prelude.{◌≡◌, ℕ, ◌+◌, ◌<◌, ◌≤◌, false, List, length, get_or, map, filter, All, count_by, nat_eq, nat_lt}
use Rattle.std.specs.List.{range_with_len}
use Rattle.msc_chart.specs.declared.queue.Queues.{Queues}
use Rattle.msc_chart.specs.Drawings.{Drawing}
use Rattle.msc_chart.specs.Orders.{queue_of}
use Rattle.msc_fifo.specs.Ends.{OutletState}
use Rattle.msc_execution.specs.Roles.{NumberedOutlet}

-- The table has, for each queue, how many of its messages below n are of instance i. `instance`
-- tells of which instance a message is: of its sender, or of its receiver.
abbrev pub AreCountsOf : (ℕ → ℕ) → Queues → Drawing → ℕ → ℕ → List ℕ → Type 0
AreCountsOf instance queues d i n counts =
    (q : ℕ) → q < length counts → get_or counts q 0
    ≡ count_by (λ m. nat_eq (instance m) i) (filter (λ m. nat_eq (queue_of queues d m) q)
    (range_with_len 0 n))

-- the numbers of the queues that have a message in the table, from q on
abbrev pub used_numbers_from : List ℕ → ℕ → ℕ → List ℕ
used_numbers_from counts q n = filter (λ k. nat_lt 0 (get_or counts k 0)) (range_with_len q n)

-- and all of them
abbrev pub numbers_in : List ℕ → List ℕ
numbers_in counts = used_numbers_from counts 0 (length counts)

-- the numbers of these ends
abbrev pub numbers_of_ends : {A : Type 0} → List (ℕ × A) → List ℕ
numbers_of_ends {A} ends = map (λ (e : ℕ × A). e.0) ends

-- the outlet is open, with room for so many messages more
abbrev pub HasRoomFor : OutletState → ℕ → Type 0
HasRoomFor o n = (o.closed ≡ false) × (length o.put + n ≤ o.quota)

-- each outlet has room for the messages of its queue in the table
abbrev pub HaveRoom : List ℕ → List NumberedOutlet → Type 0
HaveRoom counts outlets = All (λ (o : NumberedOutlet). HasRoomFor o.1 (get_or counts o.0 0)) outlets
