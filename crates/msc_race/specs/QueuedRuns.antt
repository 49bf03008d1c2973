-- The queues of a run as linked lists.
use Rattle.std.specs.Prelude.{◌≡◌, ℕ, ◌<◌, false, ◌↔◌, List, [], ◌∷◌, length, get_or, IsTrue}
use Rattle.msc_chart.specs.Lists.{IsFirst}
use Rattle.msc_chart.specs.Charts.{partner, is_input, is_local}
use Rattle.msc_chart.specs.Orders.{WiredChart, IsWired, queue}
use Rattle.msc_chart.specs.Runs.{Run, MayCome, state}
use Rattle.msc_race.specs.declared.queued_run.QueuedRun.{QueuedRun}
use Rattle.bit_rows.specs.Rows.{has}
use Rattle.msc_race.specs.Rows.{IsRow}

-- from a the links lead over the list to the last number
abbrev pub IsLinked : List ℕ → ℕ → ℕ → List ℕ → Type 0
IsLinked next last a [] = last ≡ a
IsLinked next last a (b ∷ xs) = (get_or next a 0 ≡ b) × IsLinked next last b xs

-- the links lead over the list from its head; an empty list has no head
abbrev pub IsQueue : ℕ → List ℕ → ℕ → ℕ → List ℕ → Type 0
IsQueue none next head last [] = head ≡ none
IsQueue none next head last (a ∷ xs) = (head ≡ a) × IsLinked next last a xs

-- the message of input y is the first of its queue
pub record IsArrived (chart : WiredChart) (queues : ℕ → List ℕ) (y : ℕ) : Type 0 where
  pub input : IsTrue (is_input chart.events y)
  pub first : IsFirst (queues (queue chart y)) (partner chart.events y)

-- what is in the queues, and the inputs whose messages are first
pub record AreQueues (chart : WiredChart) (queues : ℕ → List ℕ) (firsts ends links opens : List ℕ) : Type 0 where
  pub inputs_row : IsRow (length chart.events) opens
  pub heads : (e : ℕ) → e < length chart.events → is_local chart.events e ≡ false → queue chart e < length firsts
  pub lasts : length ends ≡ length firsts
  pub next : length links ≡ length chart.events
  pub linked : (q : ℕ) → q < length firsts
      → IsQueue (length chart.events) links (get_or firsts q 0) (get_or ends q 0) (queues q)
  pub inputs : (y : ℕ) → IsTrue (has opens y) ↔ IsArrived chart queues y

-- the queues after a run, as the code holds them
abbrev pub HoldsQueues : WiredChart → List ℕ → QueuedRun → Type 0
HoldsQueues chart run c =
    AreQueues chart (λ q. state chart q run) c.heads.items c.lasts.items c.next.items c.inputs

-- x, an output or an input, may come next after the run, whose queues are held
pub record IsComing (chart : WiredChart) (c : QueuedRun) (x : ℕ) : Type 0 where
  pub is_wired : IsWired chart
  pub run : Run chart c.run.items
  pub may : MayCome chart c.run.items x
  pub were : HoldsQueues chart c.run.items c
  pub message : is_local chart.events x ≡ false
