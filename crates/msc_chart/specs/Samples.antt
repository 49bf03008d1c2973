-- Small charts, and what the definitions say of them.
use Rattle.std.specs.Prelude.{ℕ, List, [], ◌∷◌, length, map, None, ◌↔◌}
use Rattle.std.specs.List.{range_with_len}
use Rattle.msc_parser.specs.declared.tree.Direction.TheVariants.{Output, Input}
use Rattle.msc_parser.specs.declared.tree.Statement.{Statement}
use Rattle.msc_parser.specs.declared.tree.Statement.TheVariants.{Message, Action}
use Rattle.msc_parser.specs.declared.tree.Item.{Item}
use Rattle.msc_parser.specs.declared.tree.Item.TheVariants.{Single, Coregion}
use Rattle.msc_parser.specs.declared.tree.Section.{Section}
use Rattle.msc_parser.specs.Grammar.{Tree}
use Rattle.msc_chart.specs.declared.event.EventKind.{EventKind}
use Rattle.msc_chart.specs.declared.event.ChartEvent.{ChartEvent}
use Rattle.msc_chart.specs.declared.queue.Queues.{Queues}
use Rattle.msc_chart.specs.Charts.{before}
use Rattle.msc_chart.specs.Drawings.{Drawing}
use Rattle.msc_chart.specs.Orders.{queue_of, WiredChart, Enforced}
use Rattle.msc_chart.specs.Lists.{Occurs, pairs_of}

-- the name `a`
abbrev pub a : List ℕ
a = 97 ∷ []

-- the name `b`
abbrev pub b : List ℕ
b = 98 ∷ []

-- the name `c`
abbrev pub c : List ℕ
c = 99 ∷ []

-- the name `d`
abbrev pub d : List ℕ
d = 100 ∷ []

-- the name `x`
abbrev pub x : List ℕ
x = 120 ∷ []

-- the name `m1`
abbrev pub m1 : List ℕ
m1 = 109 ∷ 49 ∷ []

-- the name `m2`
abbrev pub m2 : List ℕ
m2 = 109 ∷ 50 ∷ []

-- the name `m3`
abbrev pub m3 : List ℕ
m3 = 109 ∷ 51 ∷ []

-- the name `m4`
abbrev pub m4 : List ℕ
m4 = 109 ∷ 52 ∷ []

-- the name `q`
abbrev pub q : List ℕ
q = 113 ∷ []

-- the name `z`
abbrev pub z : List ℕ
z = 122 ∷ []

-- the text `go` of an action
abbrev pub go : List ℕ
go = 103 ∷ 111 ∷ []

-- the text `done` of an action
abbrev pub done : List ℕ
done = 100 ∷ 111 ∷ 110 ∷ 101 ∷ []

-- `out NAME to ADDRESS;`
abbrev pub out_to : List ℕ → List ℕ → Statement
out_to name address = Message (record { direction = Output; name = name; number = None; parameters = []; address = address })

-- `in NAME from ADDRESS;`
abbrev pub in_from : List ℕ → List ℕ → Statement
in_from name address = Message (record { direction = Input; name = name; number = None; parameters = []; address = address })

-- `action 'TEXT';`
abbrev pub does : List ℕ → Statement
does text = Action text

-- a section without kind
abbrev pub instance_of : List ℕ → List Item → Section
instance_of name items = record { decl = record { name = name; kind = [] }; items = items }

-- a draft named `t` of these sections
abbrev pub draft_of : List Section → Tree
draft_of sections = record { name = 116 ∷ []; header = []; sections = sections }

-- a: out m1; b: in m1, in m2; c: out m2
abbrev pub two_senders : Tree
two_senders =
    draft_of (instance_of a (Single (out_to m1 b) ∷ [])
    ∷ instance_of b (Single (in_from m1 a) ∷ Single (in_from m2 c) ∷ [])
    ∷ instance_of c (Single (out_to m2 b) ∷ []) ∷ [])

-- the same, with the inputs of b in a coregion
abbrev pub coregion : Tree
coregion =
    draft_of (instance_of a (Single (out_to m1 b) ∷ [])
    ∷ instance_of b (Coregion (in_from m1 a ∷ in_from m2 c ∷ []) ∷ [])
    ∷ instance_of c (Single (out_to m2 b) ∷ []) ∷ [])

-- a: out m1, out x; b: in m1, in m2; c: in x, out m2
abbrev pub relay : Tree
relay =
    draft_of (instance_of a (Single (out_to m1 b) ∷ Single (out_to x c) ∷ [])
    ∷ instance_of b (Single (in_from m1 a) ∷ Single (in_from m2 c) ∷ [])
    ∷ instance_of c (Single (in_from x a) ∷ Single (out_to m2 b) ∷ []) ∷ [])

-- an empty coregion between two events
abbrev pub empty_coregion : Tree
empty_coregion = draft_of (instance_of a (Single (out_to m1 a) ∷ Coregion [] ∷ Single (in_from m1 a) ∷ []) ∷ [])

-- a: action go, out m1; b: in m1 from a, action done
abbrev pub actions : Tree
actions =
    draft_of (instance_of a (Single (does go) ∷ Single (out_to m1 b) ∷ [])
    ∷ instance_of b (Single (in_from m1 a) ∷ Single (does done) ∷ []) ∷ [])

-- an event of a chart: its line, segment, kind, partner, and its message or action
abbrev pub event : ℕ → ℕ → EventKind → ℕ → ℕ → ChartEvent
event line segment kind partner subject =
    record { line = line; segment = segment; kind = kind; partner = partner; subject = subject }

-- a: out m1, out m3; b: out m4, out m2; q: in m1, in m2; z: in m4, in m3
abbrev pub two_mailboxes : Tree
two_mailboxes =
    draft_of (instance_of a (Single (out_to m1 q) ∷ Single (out_to m3 z) ∷ [])
    ∷ instance_of b (Single (out_to m4 z) ∷ Single (out_to m2 q) ∷ [])
    ∷ instance_of q (Single (in_from m1 a) ∷ Single (in_from m2 b) ∷ [])
    ∷ instance_of z (Single (in_from m4 b) ∷ Single (in_from m3 a) ∷ []) ∷ [])

-- a: out m1; b: in m1, a coregion of in m2 and in m3, in m4; c: out m2, out m3; d: out m4
abbrev pub below_coregion : Tree
below_coregion =
    draft_of (instance_of a (Single (out_to m1 b) ∷ [])
    ∷ instance_of b (Single (in_from m1 a) ∷ Coregion (in_from m2 c ∷ in_from m3 c ∷ []) ∷ Single (in_from m4 d) ∷ [])
    ∷ instance_of c (Single (out_to m2 b) ∷ Single (out_to m3 b) ∷ [])
    ∷ instance_of d (Single (out_to m4 b) ∷ []) ∷ [])

-- a: out m1 to itself, in m1, in m2; b: action go, out m2
abbrev pub own_message : Tree
own_message =
    draft_of (instance_of a (Single (out_to m1 a) ∷ Single (in_from m1 a) ∷ Single (in_from m2 b) ∷ [])
    ∷ instance_of b (Single (does go) ∷ Single (out_to m2 a) ∷ []) ∷ [])

-- the pairs of which the first is drawn before the second
abbrev pub drawn_pairs : Drawing → List (ℕ × ℕ)
drawn_pairs d = pairs_of (before d.events) (length d.events)

-- the queue numbers of all messages
abbrev pub queue_numbers : Queues → Drawing → List ℕ
queue_numbers queues d = map (queue_of queues d) (range_with_len 0 (length d.messages))

-- the enforced order of two_mailboxes under Mailbox, pair by pair
abbrev pub two_mailboxes_pairs : List (ℕ × ℕ)
two_mailboxes_pairs = (0, 1) ∷ (0, 4) ∷ (0, 7) ∷ (1, 7) ∷ (2, 3) ∷ (2, 5) ∷ (2, 6) ∷ (3, 5) ∷ []

-- the enforced order of the chart with actions under Mailbox, pair by pair
abbrev pub actions_pairs : List (ℕ × ℕ)
actions_pairs = (0, 1) ∷ (0, 2) ∷ (0, 3) ∷ (1, 2) ∷ (1, 3) ∷ (2, 3) ∷ []

-- a pair of the list is enforced, and no other
abbrev pub AreEnforcedPairs : WiredChart → List (ℕ × ℕ) → Type 0
AreEnforcedPairs chart pairs = (e f : ℕ) → Enforced chart e f ↔ Occurs pairs (e, f)
