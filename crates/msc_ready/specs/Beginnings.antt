-- The beginning of a ready run, as the code holds it.
use Rattle.std.specs.Prelude.{◌≡◌, ℕ, ◌<◌, ◌≤◌, Bool, false, List, [], ◌∷◌, length, get_or, IsTrue}
use Rattle.msc_chart.specs.declared.event.ChartEvent.{ChartEvent}
use Rattle.msc_chart.specs.Lists.{occurs}
use Rattle.msc_chart.specs.Charts.{line}
use Rattle.msc_chart.specs.Drawings.{Drawing}
use Rattle.msc_chart.specs.Orders.{WiredChart, queue_bound}
use Rattle.msc_chart.specs.Runs.{state}
use Rattle.msc_ready.specs.declared.beginning.Beginning.{Beginning}
use Rattle.msc_ready.specs.Held.{ReadyChart, wiring_of, ready_in}
use Rattle.msc_ready.specs.Readiness.{ReadyRun}

-- of each number below n whether it occurs
pub record HasMarks (n : ℕ) (run : List ℕ) (done : List Bool) : Type 0 where
  pub each : length done ≡ n
  pub told : (x : ℕ) → x < n → get_or done x false ≡ occurs run x

-- f is the first event of line i that has not occurred, or past the line
pub record IsFront (events : List ChartEvent) (run : List ℕ) (i f : ℕ) : Type 0 where
  pub passed : (y : ℕ) → y < f → y < length events → line events y ≡ i → IsTrue (occurs run y)
  pub itself : f < length events → line events f ≡ i → occurs run f ≡ false
  pub reach : (y : ℕ) → f ≤ y → y < length events → line events y ≡ i → line events f ≡ i

-- of each line so
pub record HasFronts (d : Drawing) (run fronts : List ℕ) : Type 0 where
  pub each : length fronts ≡ length d.instances
  pub front : (i : ℕ) → i < length d.instances → IsFront d.events run i (get_or fronts i 0)

-- h is the first of the list, or the number that stands for none
abbrev pub IsHead : ℕ → List ℕ → ℕ → Type 0
IsHead none [] h = h ≡ none
IsHead none (a ∷ xs) h = h ≡ a

-- of each queue the first of what is in it
pub record HasHeads (chart : WiredChart) (queues : ℕ) (run heads : List ℕ) : Type 0 where
  pub each : length heads ≡ queues
  pub head : (q : ℕ) → q < queues → IsHead (length chart.events) (state chart q run) (get_or heads q 0)

-- a ready run, with its marks, fronts and heads
pub record IsBegun (r : ReadyChart) (run : List ℕ) (done : List Bool) (fronts heads : List ℕ) : Type 0 where
  pub is_run : ReadyRun (wiring_of r) (ready_in r) run
  pub marks : HasMarks (length r.chart.events) run done
  pub lines : HasFronts r.chart run fronts
  pub queues : HasHeads (wiring_of r) (queue_bound r.queues r.chart) run heads

-- as the code holds it
abbrev pub HoldsRun : ReadyChart → Beginning → Type 0
HoldsRun r b = IsBegun r b.run.items b.done.items b.fronts.items b.heads.items

-- f is the first number from start on that is not on line i, or not marked as done
pub record IsNextFront (events : List ChartEvent) (done : List Bool) (i start f : ℕ) : Type 0 where
  pub later : start ≤ f
  pub between : (y : ℕ) → start ≤ y → y < f → y < length events → IsTrue (get_or done y false)
  pub itself : f < length events → line events f ≡ i → get_or done f false ≡ false
  pub on_line : (y : ℕ) → start ≤ y → y < f → y < length events → line events y ≡ i
