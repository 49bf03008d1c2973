-- Places of a queue that its senders claimed.
use Rattle.std.specs.Prelude.{ℕ, Bool, true, false}
use Rattle.msc_fifo.specs.declared.entry.Entry.{Entry}
use Rattle.msc_fifo.specs.declared.entry.Entry.TheVariants.{Message, Ended}
use Rattle.msc_fifo.specs.declared.claim.Claim.{Claim}

-- a place that a sender claimed: for which entry, with which offer (0 for an end mark), and the
-- place's clock
abbrev pub claim : ℕ → Entry → ℕ → ℕ → Claim
claim k e o n = record { place = k; entry = e; offer = o; clock = n }

-- whether an entry is a message
abbrev pub is_message : Entry → Bool
is_message (Message i m) = true
is_message (Ended i) = false
