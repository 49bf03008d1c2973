-- Rows of bits that hold the ready order.
use Rattle.std.specs.Prelude.{◌≡◌, ◌↔◌, ℕ, ◌*◌, ◌<◌, ◌⊎◌, Bool, List, [], length, IsTrue}
use Rattle.bit_rows.specs.Rows.{word_count}
use Rattle.bit_rows.specs.Tables.{cell}
use Rattle.msc_chart.specs.Orders.{WiredChart}
use Rattle.msc_ready.specs.Held.{ReadyChart, ready_in, wiring_of}
use Rattle.msc_ready.specs.Plain.{GoesOver, Plain}
use Rattle.msc_ready.specs.Readiness.{ReadyOrder}

-- row x has what lines and messages alone put behind x
abbrev pub HasPlain : WiredChart → (ℕ → Bool) → List ℕ → ℕ → Type 0
HasPlain chart ready rows x =
    (y : ℕ) → y < length chart.events → Plain chart ready x y → IsTrue (cell (length chart.events) rows x y)

-- row x has what stands behind x over one use of the rule of queues from x
abbrev pub HasOver : WiredChart → (ℕ → Bool) → List ℕ → ℕ → Type 0
HasOver chart ready rows x =
    (y : ℕ) → y < length chart.events → GoesOver chart ready x y → IsTrue (cell (length chart.events) rows x y)

-- a row for each event: it has exactly what stands behind the event in the ready order
pub record AreRowsOf (chart : WiredChart) (ready : ℕ → Bool) (rows : List ℕ) : Type 0 where
  pub square : length rows ≡ length chart.events * word_count (length chart.events)
  pub exact : (x y : ℕ) → x < length chart.events → y < length chart.events
      → IsTrue (cell (length chart.events) rows x y) ↔ ReadyOrder chart ready x y

-- the rows of a chart some of whose lines are told to be ready or not; where none is, they are not needed
abbrev pub HasRows : ReadyChart → List ℕ → Type 0
HasRows r rows = (r.lines ≡ []) ⊎ AreRowsOf (wiring_of r) (ready_in r) rows
