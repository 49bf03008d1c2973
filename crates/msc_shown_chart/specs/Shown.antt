-- The events of a chart under an architecture, as findings show them.
use Rattle.std.specs.Prelude.{ℕ, cond, List, map}
use Rattle.std.specs.List.{enumerate_from}
use Rattle.msc_chart.specs.Architectures.{kind_of}
use Rattle.msc_chart.specs.Charts.{is_local, is_output, line, message, partner}
use Rattle.msc_chart.specs.Drawings.{receiver_of, sender_of, Drawing}
use Rattle.msc_chart.specs.Orders.{queue_of}
use Rattle.msc_chart.specs.declared.queue.LinkKind.{LinkKind}
use Rattle.msc_chart.specs.declared.queue.LinkKind.TheVariants.{Pair}
use Rattle.msc_chart.specs.declared.queue.Queues.{Queues}
use Rattle.msc_full.specs.declared.event.ShownEvent.{ShownEvent}
use Rattle.msc_wording.specs.declared.event.Act.{Act}
use Rattle.msc_wording.specs.declared.event.Act.TheVariants.{Acts, Receives, Sends}
use Rattle.msc_shown_chart.specs.Words.{Words}

-- an event as findings show it: what it does, its message, the instances at both ends, where its
-- statement stands, and the link and the queue of its message
pub record PlainEvent : Type 0 where
  pub act : Act
  pub owner : ℕ
  pub peer : ℕ
  pub kind : LinkKind
  pub queue : ℕ
  pub words : Words

-- that of the code
abbrev pub plain_event : ShownEvent → PlainEvent
plain_event s = record {
  act = s.spoken.act;
  owner = s.spoken.owner;
  peer = s.spoken.peer;
  kind = s.kind;
  queue = s.queue;
  words = record {
    message = s.spoken.message.now;
    place = s.place.now;
    first = s.first;
    past = s.past;
    line = s.spoken.line;
  };
}

-- what event e does
abbrev pub act_of : Drawing → ℕ → Act
act_of d e = cond (is_local d.events e) Acts (cond (is_output d.events e) Sends Receives)

-- the kind of the link of its message
abbrev pub kind_of_event : Drawing → Queues → ℕ → LinkKind
kind_of_event d queues e = cond (is_local d.events e) Pair
    (kind_of queues (sender_of d (message d.events e)) (receiver_of d (message d.events e)))

-- the number of the queue of its message
abbrev pub queue_of_event : Drawing → Queues → ℕ → ℕ
queue_of_event d queues e = cond (is_local d.events e) 0 (queue_of queues d (message d.events e))

-- event e with these words
abbrev pub shown_as : Drawing → Queues → Words → ℕ → PlainEvent
shown_as d queues words e = record {
  act = act_of d e;
  owner = line d.events e;
  peer = line d.events (partner d.events e);
  kind = kind_of_event d queues e;
  queue = queue_of_event d queues e;
  words = words;
}

-- all events with their words
abbrev pub shown_events : Drawing → Queues → List Words → List PlainEvent
shown_events d queues words = map (λ at. shown_as d queues at.1 at.0) (enumerate_from 0 words)
