-- The races that are left, by a test for them.
use Rattle.std.specs.Prelude.{ℕ, Bool, List, length}
use Rattle.msc_chart.specs.Lists.{pairs_to}
use Rattle.msc_chart.specs.Orders.{IsWired}
use Rattle.msc_ready.specs.Held.{ready_in, wiring_of, ReadyChart}
use Rattle.msc_ready.proofs.Left.{left_test}

-- whether a pair is a race that is left
abbrev pub left_in : (r : ReadyChart) → IsWired (wiring_of r) → ℕ → ℕ → Bool
left_in r wired = (left_test (wiring_of r) wired (ready_in r)).0

-- the races that are left whose first event is e, ascending
abbrev pub left_from : (r : ReadyChart) → IsWired (wiring_of r) → ℕ → List (ℕ × ℕ)
left_from r wired e = pairs_to (left_in r wired) e (length r.chart.events)
