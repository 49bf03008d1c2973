-- The next event of a short witness, as the rows hold it.
use Rattle.std.proofs.Common.{◌≡◌, ℕ, ◌<◌, ◌↔◌, true, inl, inr, List, [], ◌∷◌, ◌++◌, length, refl}
use Rattle.msc_chart.specs.Charts.{is_output}
use Rattle.msc_chart.specs.Orders.{WiredChart, IsWired, queue}
use Rattle.msc_chart.specs.Runs.{MayCome}
use Rattle.msc_chart.proofs.Left.{is_left, left_less}
use Rattle.msc_race.specs.Beginnings.{HoldsLeft}
use Rattle.msc_race.specs.PastEvents.{IsReadyTo}
use Rattle.msc_race.specs.Short.{IsNeeded, IsShortNext, MayComeFor}
use Rattle.msc_race.proofs.Shared.{count_below}
use Rattle.msc_race.proofs.Runs.EnforcedPairs.{enforced_below}
use Rattle.msc_race.proofs.Runs.WholeRuns.{everything}
use Rattle.msc_race.proofs.Runs.EventLemmas.{output_below}

-- what is of the past of an event is an event
pub needed_below : (chart : WiredChart) → IsWired chart → (f : ℕ) → f < length chart.events → (x : ℕ) → IsNeeded chart f x
    → x < length chart.events
needed_below chart is_wired f known x needed =
    elim needed [
      | inl same ↦ rw same known
      | inr link ↦ (enforced_below chart is_wired x f link).0
    ]

module _ (chart : WiredChart) (f : ℕ) (past : List ℕ) where
  -- what may come, and does not wait by what is left, may come for f
  pub ready_may : (left : List ℕ) (count : ℕ) → HoldsLeft left (λ y. y < length chart.events) past
      → ((t : ℕ) → is_output chart.events t ≡ true → queue chart t < count)
      → (y : ℕ) → (MayCome chart past y × IsReadyTo chart f left count y) ↔ MayComeFor chart f past y
  ready_may left count held queues y = (
    λ h. record {
      may = h.0;
      needed = h.1.0;
      ready = λ waits.
          let t : ℕ = waits.1.0 in
          let there = (held t).1 (output_below chart.events t waits.1.1.0, waits.1.3) in
          (h.1.1 waits.0).1 t (waits.1.1, waits.1.2, there);
    },
    λ m. (
      m.may,
      (
        m.needed,
        λ own. (queues y own.0, λ t taken. m.ready (own, (t, taken.0, taken.1, ((held t).0 taken.2).1))),
      ),
    ),
  )

  -- an event that comes leaves fewer events
  pub short_less : (next : List ℕ) (x : ℕ) → IsShortNext chart f past x → next ≡ past ++ x ∷ []
      → count_below (is_left everything next) (length chart.events) < count_below (is_left everything past) (length chart.events)
  short_less next x short same =
      let may = short.itself.may in
      rw same (left_less everything past (length chart.events) x may.event refl may.new)
