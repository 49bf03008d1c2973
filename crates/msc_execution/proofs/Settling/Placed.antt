-- What an inlet got are the messages of its queue's first places.
use Rattle.std.proofs.Common.{◌≡◌, ℕ, List, [], ◌∷◌, ◌++◌, map, refl, ap, ◌∙◌}
use Rattle.msc_fifo.specs.declared.entry.Entry.{Entry}
use Rattle.msc_fifo.specs.declared.entry.Entry.TheVariants.{Message, Ended}
use Rattle.msc_fifo.specs.declared.claim.Claim.{Claim}
use Rattle.msc_fifo.specs.declared.places.Place.{Place}
use Rattle.msc_fifo.specs.Ends.{OutletState, InletState}
use Rattle.msc_fifo.specs.Settlement.{IsSettled, entries_at, message_of, place_of}
use Rattle.msc_execution.specs.Growth.{all_messages}
use Rattle.msc_execution.specs.Logs.{Begins}
use Rattle.msc_execution.specs.Executions.{message_and, placed_messages}

-- messages of joined lists of entries
pub all_messages-append : (xs ys : List Entry)
    → all_messages (xs ++ ys) ≡ all_messages xs ++ all_messages ys
all_messages-append [] ys = refl
all_messages-append (Message i m ∷ xs) ys = ap (λ (l : List ℕ). m ∷ l) (all_messages-append xs ys)
all_messages-append (Ended i ∷ xs) ys = all_messages-append xs ys

-- one entry more
entry_and : (e : Entry) (ms : List ℕ) (es : List Entry) → ms ≡ all_messages es
    → message_and (message_of e) ms ≡ all_messages (e ∷ es)
entry_and (Message i m) ms es h = ap (λ (l : List ℕ). m ∷ l) h
entry_and (Ended i) ms es h = h

-- the messages at the places of claims are those of their entries
placed : (log : List Claim) → placed_messages (map place_of log) ≡ all_messages (entries_at log)
placed [] = refl
placed (c ∷ log) =
    entry_and c.entry (placed_messages (map place_of log)) (entries_at log) (placed log)

-- all that an inlet got is how the messages of the places begin
pub got_first : (inlet : InletState) (outlets : List OutletState) (places : List Place)
    → IsSettled inlet outlets places → Begins (all_messages inlet.got) (placed_messages places)
got_first inlet outlets places settled =
    let (rest, whole) = settled.is_log.got in (
      all_messages rest,
      ap placed_messages settled.places_are ∙ placed settled.log
          ∙ ap all_messages whole ∙ all_messages-append inlet.got rest,
    )
