-- Two events that can come in the other order than drawn, and the order that would prevent it.
use Rattle.std.specs.Prelude.{ℕ, cond, ◌==◌, List, [], ◌++◌, codes}
use Rattle.std.specs.List.{list_any}
use Rattle.msc_wording.specs.declared.event.SpokenEvent.{SpokenEvent}
use Rattle.msc_wording.specs.declared.pair.SpokenPair.{SpokenPair}
use Rattle.msc_wording.specs.Events.{has_done_text, line_text, name_at, next_round}

-- the message that is received, and its round
unfoldable pub second_text : SpokenPair → List ℕ
second_text pair = next_round pair.is_next ++ pair.second.message.now

-- the line of an event, unless it is one of those that are marked
unfoldable pub line_unless_marked : List ℕ → SpokenEvent → List ℕ
line_unless_marked marked e = cond (list_any (λ line. line == e.line) marked) [] (line_text e.line)

-- the instance that has to have done the needed event: `it` if the same instance sends the output
unfoldable pub doer_text : List (List ℕ) → SpokenPair → List ℕ
doer_text names pair = cond (pair.needed.owner == pair.output.owner) (codes "it") (name_at names pair.needed.owner)

-- what has to be done before the output
unfoldable pub needed_text : List (List ℕ) → List ℕ → SpokenPair → List ℕ
needed_text names marked pair =
    doer_text names pair
    ++ (codes " " ++ (has_done_text names pair.needed pair.second.owner pair.needed.act ++ line_unless_marked marked pair.needed))

-- that the output is sent, and its round and line
unfoldable pub sends_text : List (List ℕ) → List ℕ → SpokenPair → List ℕ
sends_text names marked pair =
    name_at names pair.output.owner
    ++ (codes " sends " ++ (next_round pair.is_next ++ (pair.output.message.now ++ line_unless_marked marked pair.output)))

-- a condition on the order of two events
unfoldable pub only_after : List ℕ → List ℕ → List ℕ
only_after sends needed = codes " if " ++ (sends ++ (codes " only after " ++ needed))

-- ` if X sends M only after Y has done N`
abbrev pub help_text : List (List ℕ) → List ℕ → SpokenPair → List ℕ
help_text names marked pair =
    only_after (sends_text names marked pair) (needed_text names marked pair)
