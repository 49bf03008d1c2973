-- The past of an event, as the code holds it, and which outputs of it wait.
use Rattle.std.specs.Prelude.{◌≡◌, ℕ, ◌<◌, ◌≤◌, ◌↔◌, ◌⊎◌, List, length, get_or, IsTrue}
use Rattle.msc_chart.specs.declared.TheConstants.{QUEUE_LIMIT}
use Rattle.msc_chart.specs.Charts.{is_output}
use Rattle.msc_chart.specs.Orders.{WiredChart, queue}
use Rattle.msc_race.specs.declared.choosing.Choice.{Choice}
use Rattle.msc_race.specs.declared.spans.Spans.{Spans}
use Rattle.msc_race.specs.declared.needing.Needs.{Needs}
use Rattle.bit_rows.specs.Rows.{has, IsWithout}
use Rattle.msc_race.specs.Rows.{IsRow}
use Rattle.msc_race.specs.Choices.{wired_chart, event_count}
use Rattle.msc_race.specs.Remainders.{HoldsExactly}
use Rattle.msc_race.specs.Short.{IsNeeded, IsHeldFor, IsTakenFor}

-- an output of the past of f to queue q
abbrev pub IsSentFor : WiredChart → ℕ → ℕ → ℕ → Type 0
IsSentFor chart f q x = IsTrue (is_output chart.events x) × IsNeeded chart f x × (queue chart x ≡ q)

-- an event of the past of f that is no held output
abbrev pub IsUnheldFor : WiredChart → ℕ → ℕ → Type 0
IsUnheldFor chart f x = IsNeeded chart f x × (IsHeldFor chart f x → ⊥)

-- an output of queue q that is taken for f, and left
abbrev pub IsTakenLeft : WiredChart → ℕ → List ℕ → ℕ → ℕ → Type 0
IsTakenLeft chart f left q t = IsTakenFor chart f t × (queue chart t ≡ q) × IsTrue (has left t)

-- no output of queue q that is taken for f is left
abbrev pub NoneIsLeft : WiredChart → ℕ → List ℕ → ℕ → Type 0
NoneIsLeft chart f left q = (t : ℕ) → IsTakenLeft chart f left q t → ⊥

-- y is the least output of queue q that is taken for f and left, or the number of events
pub record IsNextTaken (chart : WiredChart) (f : ℕ) (left : List ℕ) (q y : ℕ) : Type 0 where
  pub below : (t : ℕ) → IsTakenLeft chart f left q t → y ≤ t
  pub within : y ≤ length chart.events
  pub itself : y < length chart.events → IsTakenLeft chart f left q y

-- Below k the outputs of each queue stand from its first one up to its end; where it has none, these
-- are the number of events, and 0.
pub record AreSpans (chart : WiredChart) (firsts ends : List ℕ) (k : ℕ) : Type 0 where
  pub few : length firsts ≤ QUEUE_LIMIT
  pub both : length ends ≡ length firsts
  pub queues : (t : ℕ) → IsTrue (is_output chart.events t) → queue chart t < length firsts
  pub from : (t : ℕ) → t < k → IsTrue (is_output chart.events t) → get_or firsts (queue chart t) 0 ≤ t
  pub past : (t : ℕ) → t < k → IsTrue (is_output chart.events t) → t < get_or ends (queue chart t) 0
  pub within : (q : ℕ) → q < length firsts → get_or ends q 0 ≤ k

-- as the code holds them
abbrev pub HoldsSpans : WiredChart → Spans → ℕ → Type 0
HoldsSpans chart s k = AreSpans chart s.firsts.items s.ends.items k

-- the rows and the spans that the code holds
pub record HoldsNeeds (c : Choice) (n : Needs) : Type 0 where
  pub needed_row : IsRow (event_count c) n.needed
  pub ready_row : IsRow (event_count c) n.ready
  pub needed : HoldsExactly n.needed (IsNeeded (wired_chart c) c.e)
  pub spans : HoldsSpans (wired_chart c) n.spans (event_count c)
  pub nexts : length n.nexts.items ≡ length n.spans.firsts.items

-- of each queue no output that is taken and left stands before the number that is held of it
abbrev pub AreNexts : WiredChart → ℕ → List ℕ → List ℕ → Type 0
AreNexts chart f left nexts =
    (t : ℕ) → IsTakenFor chart f t → IsTrue (has left t) → get_or nexts (queue chart t) 0 ≤ t

-- The event is of the past, and where it is a held output, its queue is one of those below k in which no
-- output that is taken is left.
abbrev pub IsReadyTo : WiredChart → ℕ → List ℕ → ℕ → ℕ → Type 0
IsReadyTo chart f left k y =
    IsNeeded chart f y × (IsHeldFor chart f y → (queue chart y < k) × NoneIsLeft chart f left (queue chart y))

-- it is told of the queues below k which outputs do not wait
pub record IsToldTo (c : Choice) (n : Needs) (left : List ℕ) (k : ℕ) : Type 0 where
  pub holds : HoldsNeeds c n
  pub nexts : AreNexts (wired_chart c) c.e left n.nexts.items
  pub ready : HoldsExactly n.ready (IsReadyTo (wired_chart c) c.e left k)

-- it is told of all queues
abbrev pub IsTold : Choice → Needs → List ℕ → Type 0
IsTold c n left = IsToldTo c n left (length n.spans.firsts.items)

-- it was told before x had come
pub record WasTold (c : Choice) (n : Needs) (left : List ℕ) (x : ℕ) : Type 0 where
  pub before : List ℕ
  pub without : IsWithout before left x
  pub told : IsTold c n before

-- what else does not wait after a queue's turn: where none of its outputs that are taken is left, all
-- its outputs that are needed
abbrev pub HasTurned : WiredChart → ℕ → List ℕ → ℕ → List ℕ → List ℕ → Type 0
HasTurned chart f left q old new =
    (y : ℕ) → IsTrue (has new y) ↔ (IsTrue (has old y) ⊎ (IsSentFor chart f q y × NoneIsLeft chart f left q))
