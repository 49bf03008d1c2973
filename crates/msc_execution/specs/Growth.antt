-- How the ends of an instance grow with its log.
use Rattle.std.specs.Prelude.{◌≡◌, ℕ, ◌+◌, ◌<◌, true, false, List, [], ◌∷◌, ◌++◌, map, length, IsTrue}
use Rattle.msc_chart.specs.Charts.{message}
use Rattle.msc_chart.specs.Lists.{occurs, until}
use Rattle.msc_chart.specs.Drawings.{input_of}
use Rattle.msc_chart.specs.Orders.{queue_of}
use Rattle.msc_fifo.specs.declared.claim.Claim.{Claim}
use Rattle.msc_fifo.specs.declared.entry.Entry.{Entry}
use Rattle.msc_fifo.specs.declared.entry.Entry.TheVariants.{Message, Ended}
use Rattle.msc_fifo.specs.Claims.{claim}
use Rattle.msc_fifo.specs.Ends.{IsSameOutlet, IsSameInlet}
use Rattle.msc_execution.specs.Roles.{Role, NumberedOutlet, NumberedInlet}
use Rattle.msc_execution.specs.Logs.{Reading, clock_along, outputs_at, inputs_at, sent, received}

-- all messages among what was got, in order
abbrev pub all_messages : List Entry → List ℕ
all_messages [] = []
all_messages (Message i m ∷ es) = m ∷ all_messages es
all_messages (Ended i ∷ es) = all_messages es

-- of the clocks of the places that were got, those of messages
abbrev pub clocks_at : List Entry → List ℕ → List ℕ
clocks_at [] ns = []
clocks_at (Message i m ∷ es) [] = []
clocks_at (Message i m ∷ es) (n ∷ ns) = n ∷ clocks_at es ns
clocks_at (Ended i ∷ es) [] = []
clocks_at (Ended i ∷ es) (n ∷ ns) = clocks_at es ns

-- the claim of output s of a log, put by this sender: it offers the instance's clock before it and
-- one
abbrev pub claim_at : Role → List ℕ → Reading → ℕ → ℕ → Claim
claim_at r log reading sender s =
    claim (reading.place_at s) (Message sender (message r.chart.events s))
    (clock_along r.chart reading.read_at (until log s) + 1) (reading.read_at s)

-- An outlet after the outputs of a log, closed. Its claims are those of the outputs, then of its
-- end mark.
pub record IsLeftBy (r : Role) (log : List ℕ) (reading : Reading)
    (old new : NumberedOutlet) : Type 0 where
  pub number : new.0 ≡ old.0
  pub same : IsSameOutlet old.1 new.1
  pub put : new.1.put ≡ old.1.put ++ sent r.queues r.chart old.0 log
  pub closed : new.1.closed ≡ true
  pub claims : old.1.closed ≡ false → (place : ℕ) × (new.1.claims ≡ old.1.claims
      ++ (map (claim_at r log reading old.1.sender) (outputs_at r.queues r.chart old.0 log)
      ++ claim place (Ended old.1.sender) 0 0 ∷ []))

-- An inlet after the inputs of a log, and then what is strange in its queue. The clocks of its
-- messages' places grew by those that were read at the inputs.
pub record HasTaken (r : Role) (log : List ℕ) (reading : Reading) (strange : ℕ → List ℕ)
    (old new : NumberedInlet) : Type 0 where
  pub number : new.0 ≡ old.0
  pub same : IsSameInlet old.1 new.1
  pub got : all_messages new.1.got
      ≡ all_messages old.1.got ++ (received r.queues r.chart old.0 log ++ strange old.0)
  pub clocks : (rest : List ℕ)
      × (clocks_at new.1.got new.1.clocks ≡ clocks_at old.1.got old.1.clocks
      ++ (map reading.read_at (inputs_at r.queues r.chart old.0 log) ++ rest))

-- a message that is not of the chart in the queue, or whose input is in the log
abbrev pub IsStrange : Role → ℕ → List ℕ → ℕ → Type 0
IsStrange r q log m =
    (m < length r.chart.messages) × (queue_of r.queues r.chart m ≡ q)
    → IsTrue (occurs log (input_of r.chart m))
