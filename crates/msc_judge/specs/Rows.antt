-- The rows of races. The count of rows is the number of races before; only the first rows have
-- text.
use Rattle.std.specs.Prelude.{◌≡◌, ℕ, ◌+◌, cond, List, [], MatchOption, nat_lt}
use Rattle.msc_chart.specs.Witness.{IsWitness}
use Rattle.msc_chart.specs.Orders.{WiredChart}
use Rattle.msc_judge.specs.declared.rows.ShownRun.{ShownRun}

-- the row of a pair at the count n: its text, if it is one of the first so many
abbrev pub first_row : (ℕ → ℕ × ℕ → List ℕ) → ℕ → ℕ → ℕ × ℕ → List ℕ
first_row text most n p = cond (nat_lt n most) (text n p) []

-- the count after it: rows without text are not counted
abbrev pub next_number : ℕ → ℕ → ℕ × ℕ → ℕ
next_number most n p = cond (nat_lt n most) (n + 1) n

-- a line that is kept for an event is what a renderer makes of the event's witness
abbrev pub HasKept : WiredChart → (List ℕ → List ℕ) → ShownRun → Type 0
HasKept chart text kept =
    MatchOption kept.witness_of (Unit {0}) (λ e. (run : List ℕ) → IsWitness chart e run → kept.line.items ≡ text run)
