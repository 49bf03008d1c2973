-- Events in words.
use Rattle.std.specs.Prelude.{ℕ, Bool, cond, not, ◌&&◌, ◌==◌, List, [], ◌++◌, codes, decimal, get_or}
use Rattle.msc_wording.specs.declared.event.Act.{Act}
use Rattle.msc_wording.specs.declared.event.Act.TheVariants.{Acts, Loses, Receives, Sends}
use Rattle.msc_wording.specs.declared.event.SpokenEvent.{SpokenEvent}

-- the name of an instance
abbrev pub name_at : List (List ℕ) → ℕ → List ℕ
name_at names instance = get_or names instance []

-- the instance at the other end of the message
unfoldable pub peer_text : List (List ℕ) → SpokenEvent → List ℕ
peer_text names e = cond (e.peer == e.owner) (codes "itself") (name_at names e.peer)

-- what stands before a message of the next round
abbrev pub next_round : Bool → List ℕ
next_round is_next = cond is_next (codes "the next round's ") []

-- the line of an event
unfoldable pub line_text : ℕ → List ℕ
line_text line = codes " (line " ++ (decimal line ++ codes ")")

-- a text, and the line that it is about
abbrev pub with_line : List ℕ → ℕ → List ℕ
with_line text line = text ++ line_text line

-- what an event does
unfoldable pub does_text : List (List ℕ) → SpokenEvent → Act → List ℕ
does_text names e Sends = codes "sends " ++ (e.message.now ++ (codes " to " ++ peer_text names e))
does_text names e Loses = codes "sends " ++ (e.message.now ++ (codes " to " ++ (peer_text names e ++ codes " (lost)")))
does_text names e Receives = codes "receives " ++ (e.message.now ++ (codes " from " ++ peer_text names e))
does_text names e Acts = codes "does " ++ e.message.now

-- what an event does, and its line
unfoldable pub does_at_text : List (List ℕ) → SpokenEvent → List ℕ
does_at_text names e = with_line (does_text names e e.act) e.line

-- the receiver of a message that was sent, unless it is the instance that the sentence is about
unfoldable pub receiver_text : List (List ℕ) → SpokenEvent → ℕ → List ℕ
receiver_text names e reader = cond (e.peer == reader && not (e.owner == reader)) [] (codes " to " ++ peer_text names e)

-- what an event has done
unfoldable pub has_done_text : List (List ℕ) → SpokenEvent → ℕ → Act → List ℕ
has_done_text names e reader Sends = codes "has sent " ++ (e.message.now ++ receiver_text names e reader)
has_done_text names e reader Loses = codes "has sent " ++ (e.message.now ++ (receiver_text names e reader ++ codes " (lost)"))
has_done_text names e reader Receives = codes "has received " ++ (e.message.now ++ (codes " from " ++ peer_text names e))
has_done_text names e reader Acts = codes "has done " ++ e.message.now
