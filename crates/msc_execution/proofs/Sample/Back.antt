-- The ends that came back of the sample's instances.
use Rattle.std.specs.Prelude.{ℕ, zero, suc, true, [], ◌∷◌}
use Rattle.msc_fifo.specs.Identity.{QueueId}
use Rattle.msc_fifo.specs.declared.entry.Entry.TheVariants.{Message, Ended}
use Rattle.msc_fifo.specs.Claims.{claim}
use Rattle.msc_fifo.specs.Ends.{OutletState, InletState}
use Rattle.msc_execution.specs.Roles.{EndLists}

-- what instance 0 has put in the queue
abbrev pub own_outlet : QueueId → OutletState
own_outlet id = record {
  queue = id;
  sender = 0;
  quota = 1;
  put = 0 ∷ [];
  closed = true;
  claims = claim 1 (Message 0 0) 1 1 ∷ claim 3 (Ended 0) 0 0 ∷ [];
}

-- what instance 1 has put there
abbrev pub other_outlet : QueueId → OutletState
other_outlet id = record {
  queue = id;
  sender = 1;
  quota = 1;
  put = 1 ∷ [];
  closed = true;
  claims = claim 0 (Message 1 1) 1 1 ∷ claim 2 (Ended 1) 0 0 ∷ [];
}

-- what instance 0 has got
abbrev pub mailbox : QueueId → InletState
mailbox id = record {
  queue = id;
  senders = 2;
  got = Message 1 1 ∷ Message 0 0 ∷ Ended 1 ∷ Ended 0 ∷ [];
  clocks = 1 ∷ 1 ∷ 0 ∷ 0 ∷ [];
  idle = 0;
}

-- the ends of both that came back
abbrev pub both_back : QueueId → ℕ → EndLists
both_back id zero = record { outlets = (0, own_outlet id) ∷ []; inlets = (0, mailbox id) ∷ [] }
both_back id (suc i) = record { outlets = (0, other_outlet id) ∷ []; inlets = [] }
