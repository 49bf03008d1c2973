-- The queues of a chart under an architecture, the enforced order, and races.
use Rattle.std.specs.Prelude.{◌≡◌, ℕ, ◌+◌, ◌*◌, ◌<◌, Bool, cond, List, length, IsTrue}
use Rattle.msc_chart.specs.declared.queue.LinkKind.{LinkKind}
use Rattle.msc_chart.specs.declared.queue.LinkKind.TheVariants.{Pair, Mailbox, Single}
use Rattle.msc_chart.specs.declared.queue.Queues.{Queues}
use Rattle.msc_chart.specs.declared.queue.Queues.TheVariants.{Uniform, Mixed}
use Rattle.msc_chart.specs.declared.event.ChartEvent.{ChartEvent}
use Rattle.msc_chart.specs.Architectures.{link_kind}
use Rattle.msc_chart.specs.Charts.{line, partner, message, is_output, is_controlled, before, Visual, IsMatched}
use Rattle.msc_chart.specs.Drawings.{Drawing, sender_of, receiver_of}

-- the number of the queue of a message from a sender to a receiver, of this number of instances, if
-- all links are of one kind: with Pair each link has a queue, with Mailbox each receiver, with Single
-- each message
abbrev pub number_alone : LinkKind → ℕ → ℕ → ℕ → ℕ → ℕ
number_alone Pair instances sender receiver m = sender * instances + receiver
number_alone Mailbox instances sender receiver m = receiver
number_alone Single instances sender receiver m = m

-- the same if links may differ: first the queues of links, then the mailboxes, then those of messages
abbrev pub number_among : LinkKind → ℕ → ℕ → ℕ → ℕ → ℕ
number_among Pair instances sender receiver m = sender * instances + receiver
number_among Mailbox instances sender receiver m = instances * instances + receiver
number_among Single instances sender receiver m = instances * instances + instances + m

-- the number of the queue of a message under an architecture
unfoldable pub queue_number : Queues → ℕ → ℕ → ℕ → ℕ → ℕ
queue_number (Uniform kind) instances sender receiver m = number_alone kind instances sender receiver m
queue_number (Mixed links) instances sender receiver m =
    number_among (link_kind links sender receiver) instances sender receiver m

-- a number past all queue numbers of a chart whose links are of one kind
abbrev pub bound_alone : LinkKind → Drawing → ℕ
bound_alone Pair d = length d.instances * length d.instances
bound_alone Mailbox d = length d.instances
bound_alone Single d = length d.messages

-- a number past all queue numbers of a chart
unfoldable pub queue_bound : Queues → Drawing → ℕ
queue_bound (Uniform kind) d = bound_alone kind d
queue_bound (Mixed links) d = length d.instances * length d.instances + length d.instances + length d.messages

-- the queue of message m
unfoldable pub queue_of : Queues → Drawing → ℕ → ℕ
queue_of queues d m = queue_number queues (length d.instances) (sender_of d m) (receiver_of d m) m

-- the instance that sends the message of event e
unfoldable pub sender_at : List ChartEvent → ℕ → ℕ
sender_at events e = cond (is_output events e) (line events e) (line events (partner events e))

-- the instance that takes the message of event e
unfoldable pub receiver_at : List ChartEvent → ℕ → ℕ
receiver_at events e = cond (is_output events e) (line events (partner events e)) (line events e)

-- a chart under an architecture: its events, and the queue of the message of each
pub record WiredChart : Type 0 where
  pub events : List ChartEvent
  pub queue_at : ℕ → ℕ

-- a chart under one of the architectures
abbrev pub wired : Queues → Drawing → WiredChart
wired queues d = record {
  events = d.events;
  queue_at = λ e.
      queue_number queues (length d.instances) (sender_at d.events e) (receiver_at d.events e) (message d.events e);
}

-- the queue of the message of event e
unfoldable pub queue : WiredChart → ℕ → ℕ
queue chart e = chart.queue_at e

-- partners lead to and fro between outputs and inputs, and have one queue
pub record IsWired (chart : WiredChart) : Type 0 where
  pub matched : IsMatched chart.events
  pub one_queue : (e : ℕ) → e < length chart.events → queue chart (partner chart.events e) ≡ queue chart e

-- the enforced order: the least relation closed under four rules (this project's own)
pub data Enforced (chart : WiredChart) : ℕ → ℕ → Type 0 where
  -- what is drawn before a controlled event comes before it
  drawn : {x s : ℕ} → IsTrue (before chart.events x s) → IsTrue (is_controlled chart.events s) → Enforced chart x s
  -- an output comes before its input
  sent : {s r : ℕ} → IsTrue (is_output chart.events s) → partner chart.events s ≡ r → Enforced chart s r
  -- transitivity
  joined : {x y z : ℕ} → Enforced chart x y → Enforced chart y z → Enforced chart x z
  -- where two outputs of one queue come in an order, so do their inputs
  queued : {s t r u : ℕ} → IsTrue (is_output chart.events s) → IsTrue (is_output chart.events t)
      → queue chart s ≡ queue chart t → Enforced chart s t
      → partner chart.events s ≡ r → partner chart.events t ≡ u → Enforced chart r u

-- a race (after Alur, Holzmann, Peled 1996): a pair that is drawn in an order which is not enforced
abbrev pub IsRace : WiredChart → ℕ → ℕ → Type 0
IsRace chart e f = IsTrue (before chart.events e f) × (Enforced chart e f → ⊥)

-- a test for the visual order of the events of a chart
pub record IsVisualOrder (events : List ChartEvent) (order : ℕ → ℕ → Bool) : Type 0 where
  pub holds : (x y : ℕ) → x < length events → y < length events → IsTrue (order x y) → Visual events x y
  pub complete : (x y : ℕ) → Visual events x y → IsTrue (order x y)

-- a test for the enforced order of the events of a chart
pub record IsEnforcedOrder (chart : WiredChart) (order : ℕ → ℕ → Bool) : Type 0 where
  pub holds : (x y : ℕ) → x < length chart.events → y < length chart.events → IsTrue (order x y) → Enforced chart x y
  pub complete : (x y : ℕ) → Enforced chart x y → IsTrue (order x y)
