-- Laws of charts, for the crates that rest on this one.
use Rattle.std.specs.Prelude.{◌≡◌, ℕ, ◌+◌, ◌<◌, ◌≤◌, ◌↔◌, Bool, false, List, length, filter, IsTrue, nat_eq}
use Rattle.msc_chart.specs.declared.TheConstants.{INSTANCE_LIMIT, MESSAGE_LIMIT, QUEUE_LIMIT}
use Rattle.std.specs.List.{list_any, range_with_len}
use Rattle.msc_chart.specs.declared.queue.Queues.{Queues}
use Rattle.msc_chart.specs.declared.queue.Queues.TheVariants.{Uniform, Mixed}
use Rattle.msc_chart.specs.declared.queue.LinkKind.{LinkKind}
use Rattle.msc_chart.specs.declared.queue.LinkKind.TheVariants.{Pair, Mailbox, Single}
use Rattle.msc_chart.specs.declared.queue.Links.{Links}
use Rattle.msc_chart.specs.Architectures.{kind_of, AreAllOfKind}
use Rattle.msc_chart.specs.Charts.{line, segment, message, is_input, is_local, line_start}
use Rattle.msc_chart.specs.Drawings.{Drawing, sender_of, receiver_of, IsAccepted, IsLine}
use Rattle.msc_chart.specs.Orders.{queue_bound, queue_of, queue, wired, IsWired, Enforced}

-- what two messages have in common that share a queue, if their links are of this kind
abbrev pub HaveInCommon : LinkKind → Drawing → ℕ → ℕ → Type 0
HaveInCommon Pair d k m = (sender_of d k ≡ sender_of d m) × (receiver_of d k ≡ receiver_of d m)
HaveInCommon Mailbox d k m = receiver_of d k ≡ receiver_of d m
HaveInCommon Single d k m = k ≡ m

-- the kind of the link of message m
abbrev pub kind_at : Queues → Drawing → ℕ → LinkKind
kind_at queues d m = kind_of queues (sender_of d m) (receiver_of d m)

-- two messages share a queue
abbrev pub Share : Queues → Drawing → ℕ → ℕ → Type 0
Share queues d k m = queue_of queues d k ≡ queue_of queues d m

-- messages share a queue if and only if their links are of one kind, and they have in common what it asks for
abbrev pub LinksDecideOnQueues : Type 0
LinksDecideOnQueues =
    (queues : Queues) (d : Drawing) (k m : ℕ) → IsAccepted d → k < length d.messages → m < length d.messages
    → Share queues d k m ↔ ((kind_at queues d k ≡ kind_at queues d m) × HaveInCommon (kind_at queues d k) d k m)

-- with one kind for all links, messages share queues as under the architecture that is this kind alone
abbrev pub OneKindIsTheOldRule : Type 0
OneKindIsTheOldRule =
    (links : Links) (kind : LinkKind) (d : Drawing) (k m : ℕ) → IsAccepted d → k < length d.messages → m < length d.messages
    → AreAllOfKind links kind → Share (Mixed links) d k m ↔ Share (Uniform kind) d k m

-- messages that share a queue in one architecture also share one in another
abbrev pub IsCoarser : Queues → Queues → Drawing → Type 0
IsCoarser coarse fine d =
    (k m : ℕ) → k < length d.messages → m < length d.messages → Share fine d k m → Share coarse d k m

-- then the other one enforces whatever the first one enforces
abbrev pub CoarserQueuesEnforceMore : Type 0
CoarserQueuesEnforceMore =
    (fine coarse : Queues) (d : Drawing) (e f : ℕ) → IsAccepted d → IsCoarser coarse fine d
    → Enforced (wired fine d) e f → Enforced (wired coarse d) e f

-- so every architecture enforces what a queue for each message enforces
abbrev pub SingleEnforcesLeast : Type 0
SingleEnforcesLeast =
    (queues : Queues) (d : Drawing) (e f : ℕ) → IsAccepted d
    → Enforced (wired (Uniform Single) d) e f → Enforced (wired queues d) e f

-- the messages of a queue, ascending
unfoldable pub messages_in : Queues → Drawing → ℕ → List ℕ
messages_in queues d q = filter (λ m. nat_eq (queue_of queues d m) q) (range_with_len 0 (length d.messages))

-- instance i sends a message of the queue
unfoldable pub sends_to : Queues → Drawing → ℕ → ℕ → Bool
sends_to queues d q i = list_any (λ m. nat_eq (sender_of d m) i) (messages_in queues d q)

-- the instances that send a message of the queue, ascending
unfoldable pub senders_in : Queues → Drawing → ℕ → List ℕ
senders_in queues d q = filter (sends_to queues d q) (range_with_len 0 (length d.instances))

-- the queue has from 1 to 32 senders, one receiver, and at most 1,024 messages
pub record IsBounded (queues : Queues) (d : Drawing) (q : ℕ) : Type 0 where
  pub some_sender : 1 ≤ length (senders_in queues d q)
  pub few_senders : length (senders_in queues d q) ≤ INSTANCE_LIMIT
  pub few_messages : length (messages_in queues d q) ≤ MESSAGE_LIMIT
  pub one_receiver : (k m : ℕ) → k < length d.messages → m < length d.messages
      → queue_of queues d k ≡ q → queue_of queues d m ≡ q → receiver_of d k ≡ receiver_of d m

-- under each architecture each queue with a message is bounded
abbrev pub QueuesAreBounded : Type 0
QueuesAreBounded =
    (queues : Queues) (d : Drawing) (m : ℕ) → IsAccepted d → m < length d.messages → IsBounded queues d (queue_of queues d m)

-- both ends of a message have one queue
abbrev pub EndsShareQueues : Type 0
EndsShareQueues = (queues : Queues) (d : Drawing) → IsAccepted d → IsWired (wired queues d)

-- the queue of an output or input is that of its message
abbrev pub EventsHaveQueues : Type 0
EventsHaveQueues =
    (queues : Queues) (d : Drawing) (e : ℕ) → IsAccepted d → e < length d.events → is_local d.events e ≡ false
    → queue (wired queues d) e ≡ queue_of queues d (message d.events e)

-- if all links are pairs, messages of one queue have one sender and one receiver
abbrev pub PairsHaveQueuesOfTheirOwn : Type 0
PairsHaveQueuesOfTheirOwn =
    (d : Drawing) (k m : ℕ) → IsAccepted d → k < length d.messages → m < length d.messages
    → queue_of (Uniform Pair) d k ≡ queue_of (Uniform Pair) d m → (sender_of d k ≡ sender_of d m) × (receiver_of d k ≡ receiver_of d m)

-- the queue of each output and input has a number below the bound
abbrev pub QueueNumbersAreBounded : Type 0
QueueNumbersAreBounded =
    (queues : Queues) (d : Drawing) (e : ℕ) → IsAccepted d → e < length d.events → is_local d.events e ≡ false
    → queue (wired queues d) e < queue_bound queues d

-- and the bound is small
abbrev pub QueueBoundsAreSmall : Type 0
QueueBoundsAreSmall = (queues : Queues) (d : Drawing) → IsAccepted d → queue_bound queues d ≤ QUEUE_LIMIT

-- the inputs of a queue are on one line
abbrev pub InputsShareLines : Type 0
InputsShareLines =
    (queues : Queues) (d : Drawing) (r u : ℕ) → IsAccepted d → IsTrue (is_input d.events r) → IsTrue (is_input d.events u)
    → queue (wired queues d) r ≡ queue (wired queues d) u → line d.events r ≡ line d.events u

-- a line is a contiguous range of event numbers
abbrev pub LinesAreRanges : Type 0
LinesAreRanges = (d : Drawing) (i : ℕ) → IsAccepted d → IsLine d i (line_start d.events i) (line_start d.events (i + 1))

-- it starts before it ends, among the events
abbrev pub LinesAreWithin : Type 0
LinesAreWithin =
    (d : Drawing) (i : ℕ) → (line_start d.events i ≤ line_start d.events (i + 1)) × (line_start d.events (i + 1) ≤ length d.events)

-- segments do not fall along the numbers of a line
abbrev pub SegmentsRise : Type 0
SegmentsRise =
    (d : Drawing) (e f : ℕ) → IsAccepted d → e ≤ f → f < length d.events → line d.events e ≡ line d.events f
    → segment d.events e ≤ segment d.events f
