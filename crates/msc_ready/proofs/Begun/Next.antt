-- Which events may come next.
use Rattle.std.proofs.Common.{◌≡◌, ℕ, ◌<◌, ◌↔◌, Bool, true, false, List, length, inl, inr}
use Rattle.std.specs.Prelude.{IsTrue}
use Rattle.msc_chart.specs.Lists.{occurs, IsFirst}
use Rattle.msc_chart.specs.Charts.{line, partner, is_input, before}
use Rattle.msc_chart.specs.Orders.{WiredChart, queue}
use Rattle.msc_chart.specs.Runs.{state}
use Rattle.msc_ready.specs.Readiness.{MayComeReady}
use Rattle.msc_ready.proofs.Shared.{clash, controlled_no_input, controlled_or_input}

module _ (chart : WiredChart) (ready : ℕ → Bool) (run : List ℕ) (x : ℕ) (below : x < length chart.events) where
  -- all that is drawn before x has occurred
  abbrev Settled : Type 0
  Settled = (y : ℕ) → IsTrue (before chart.events y x) → IsTrue (occurs run y)

  -- an event that has occurred may not come next
  pub never_again : (b : Bool) → b ≡ false → occurs run x ≡ true → IsTrue b ↔ MayComeReady chart ready run x
  never_again b is there = (λ h. clash h is, λ may. clash there may.may.new)

  -- a controlled event may come next where all that is drawn before it has occurred
  pub may_controlled : (b : Bool) → is_input chart.events x ≡ false → occurs run x ≡ false → IsTrue b ↔ Settled
      → IsTrue b ↔ MayComeReady chart ready run x
  may_controlled b no_input new settled = (
    λ h. record {
      may = record { event = below; new = new; controlled = λ c. settled.0 h; input = λ i. clash i no_input };
      awaited = λ i. clash i no_input;
    },
    λ may. elim (controlled_or_input chart.events x below) [
      | inl c ↦ settled.1 (may.may.controlled c)
      | inr i ↦ clash i no_input
    ],
  )

  module _ (input : is_input chart.events x ≡ true) where
    -- an input whose message is not first in its queue may not come next
    pub never_behind : (b : Bool) → b ≡ false → (IsFirst (state chart (queue chart x) run) (partner chart.events x) → ⊥)
        → IsTrue b ↔ MayComeReady chart ready run x
    never_behind b is behind = (λ h. clash h is, λ may. absurd (behind (may.may.input input)))

    -- an input whose message is first, where it does not wait for what is drawn before it
    pub may_loose : (b : Bool) → b ≡ true → occurs run x ≡ false → IsFirst (state chart (queue chart x) run) (partner chart.events x)
        → ready (line chart.events x) ≡ false → IsTrue b ↔ MayComeReady chart ready run x
    may_loose b is new first loose = (
      λ h. record {
        may = record { event = below; new = new; controlled = λ c. absurd (controlled_no_input chart.events x c input); input = λ i. first };
        awaited = λ i set. clash set loose;
      },
      λ may. is,
    )

    -- and where it does
    pub may_awaited : (b : Bool) → occurs run x ≡ false → IsFirst (state chart (queue chart x) run) (partner chart.events x)
        → ready (line chart.events x) ≡ true → IsTrue b ↔ Settled → IsTrue b ↔ MayComeReady chart ready run x
    may_awaited b new first set settled = (
      λ h. record {
        may = record { event = below; new = new; controlled = λ c. absurd (controlled_no_input chart.events x c input); input = λ i. first };
        awaited = λ i l. settled.0 h;
      },
      λ may. settled.1 (may.awaited input set),
    )
