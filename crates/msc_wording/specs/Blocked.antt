-- Instances that can block, in words.
use Rattle.std.specs.Prelude.{ℕ, Bool, cond, List, ◌++◌, codes, decimal}
use Rattle.msc_wording.specs.declared.blocked.SpokenBlockedPair.{SpokenBlockedPair}
use Rattle.msc_wording.specs.Events.{name_at, peer_text}
use Rattle.msc_wording.specs.Pairs.{second_text}

-- `X can block: it waits for M from Y`, of these parts
unfoldable pub waits_text : List ℕ → List ℕ → List ℕ → List ℕ
waits_text reader message sender =
    reader ++ (codes " can block: it waits for " ++ (message ++ (codes " from " ++ sender)))

-- where the message of the second input is
unfoldable pub ahead_text : List (List ℕ) → SpokenBlockedPair → List ℕ
ahead_text names b =
    second_text b.pair ++ cond b.in_mailbox
    (codes " from " ++ (peer_text names b.pair.second ++ codes " is first in its mailbox")) (codes " is ahead of it in their connection")

-- what an instance waits for, and what is ahead of it
abbrev pub blocked_sentence : List (List ℕ) → SpokenBlockedPair → List ℕ
blocked_sentence names b =
    waits_text (name_at names b.pair.second.owner) b.pair.first.message.now (peer_text names b.pair.first)
    ++ (codes ", and " ++ ahead_text names b)

-- the label of the message that is ahead
abbrev pub ahead_label : Bool → List ℕ
ahead_label in_mailbox = cond in_mailbox (codes "first in its mailbox") (codes "ahead of it")

-- an instance blocks at an earlier line
abbrev pub blocks_text : List (List ℕ) → ℕ → ℕ → List ℕ
blocks_text names instance line =
    name_at names instance ++ (codes " blocks at line " ++ (decimal line ++ codes " before that"))
