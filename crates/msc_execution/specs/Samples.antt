-- A small execution, which meets all that an execution has to meet: under the mailbox instance 0
-- sends a message to itself, instance 1 acts and sends one to it; the second is put first, and is
-- taken before the first.
use Rattle.std.specs.Prelude.{◌≡◌, ℕ, true, List, [], ◌∷◌, None, map}
use Rattle.msc_chart.specs.declared.queue.LinkKind.TheVariants.{Mailbox}
use Rattle.msc_chart.specs.declared.queue.Queues.TheVariants.{Uniform}
use Rattle.msc_chart.specs.declared.event.EventKind.TheVariants.{Output, Input, Local}
use Rattle.msc_chart.specs.Samples.{a, b, m1, m2, go, event, own_message}
use Rattle.msc_chart.specs.Drawings.{Drawing, chart_of}
use Rattle.msc_fifo.specs.Identity.{QueueId}
use Rattle.msc_fifo.specs.declared.entry.Entry.TheVariants.{Message, Ended}
use Rattle.msc_fifo.specs.declared.claim.Claim.{Claim}
use Rattle.msc_fifo.specs.declared.accounts.Account.{Account}
use Rattle.msc_fifo.specs.declared.accounts.Settled.{Settled}
use Rattle.msc_fifo.specs.Claims.{claim}
use Rattle.msc_fifo.specs.Settlement.{place_of}
use Rattle.msc_ending.specs.declared.end.End.TheVariants.{Finished}
use Rattle.msc_execution.specs.Executions.{Outcome, IsExecution}
use Rattle.msc_execution.specs.Shown.{trace_in}

-- The chart of `own_message`, written out: instance 0 has an output to itself, its input, and the
-- input from instance 1, one below the other; instance 1 an action, and below it the output.
abbrev pub own_chart : Drawing
own_chart = record {
  name = 116 ∷ [];
  instances = a ∷ b ∷ [];
  events = event 0 0 Output 1 0 ∷ event 0 1 Input 0 0 ∷ event 0 2 Input 4 1
      ∷ event 1 0 Local 3 0 ∷ event 1 1 Output 2 1 ∷ [];
  messages = record { name = m1; number = None; output = 0 }
      ∷ record { name = m2; number = None; output = 4 } ∷ [];
  actions = go ∷ [];
}

-- it is a draft's
abbrev pub TheSampleIsDrawn : Type 0
TheSampleIsDrawn = chart_of own_message ≡ own_chart

-- what was claimed, by places
abbrev pub all_claims : List Claim
all_claims =
    claim 0 (Message 1 1) 1 1 ∷ claim 1 (Message 0 0) 1 1 ∷ claim 2 (Ended 1) 0 0 ∷ claim 3
    (Ended 0) 0 0 ∷ []

-- the account of a sender whose one message was taken
abbrev pub account_of : ℕ → Account
account_of m = record { put = m ∷ []; taken = m ∷ []; left = []; closed = true }

-- the queue was settled with these accounts and places
pub record IsSampled (s : Settled) : Type 0 where
  pub senders : s.senders.items ≡ account_of 0 ∷ account_of 1 ∷ []
  pub places : s.places.items ≡ map place_of all_claims

-- what both left
abbrev pub sample : Settled → Outcome
sample s = record {
  logs = (0 ∷ 2 ∷ 1 ∷ []) ∷ (3 ∷ 4 ∷ []) ∷ [];
  ends = Finished ∷ Finished ∷ [];
  settled = (0, s) ∷ [];
}

-- the sample is an execution, whichever queue it is
abbrev pub TheSampleIsAnExecution : Type 0
TheSampleIsAnExecution =
    (id : QueueId) (s : Settled) → IsSampled s → IsExecution (Uniform Mailbox) own_chart true 1 (sample s)

-- sorted, its events begin with the action, and the second message is put first
abbrev pub TheSampleIsSorted : Type 0
TheSampleIsSorted =
    (s : Settled) → IsSampled s → trace_in (Uniform Mailbox) own_chart (sample s) ≡ 3 ∷ 4 ∷ 0 ∷ 2 ∷ 1 ∷ []
