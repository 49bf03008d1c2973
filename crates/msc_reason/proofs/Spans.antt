-- Each race spans a closest race: what is drawn between its events parts it into two pairs, of which
-- one is a race.
use Rattle.std.proofs.Common.{◌≡◌, ℕ, zero, suc, ◌+◌, ◌≤◌, true, ◌&&◌, ◌⊎◌, inl, inr, List, length, refl, sym, ◌∙◌, subst, arith}
use Rattle.std.proofs.lemmas.Bool.{and_parts, and_from}
use Rattle.msc_chart.specs.declared.event.ChartEvent.{ChartEvent}
use Rattle.msc_chart.specs.Charts.{segment, before}
use Rattle.msc_chart.specs.Orders.{WiredChart, IsWired, IsRace}
use Rattle.msc_chart.specs.Orders.Enforced.{joined}
use Rattle.msc_chart.proofs.Drawn.{before_from, before_parts}
use Rattle.msc_chart.proofs.Numbers.{find_below}
use Rattle.msc_chart.proofs.ListLemmas.{clash}
use Rattle.msc_race.proofs.Runs.Tables.{enforced_told}
use Rattle.msc_reason.specs.Closest.{IsClosest, StandsWithin}

-- the drawn order is transitive
pub before_trans : (events : List ChartEvent) (x y z : ℕ) → before events x y ≡ true → before events y z ≡ true → before events x z ≡ true
before_trans events x y z h k =
    let p = before_parts events x y h in
    let q = before_parts events y z k in
    before_from events x z p.0 q.1 (p.2 ∙ q.2) (omega (arith, p.3, q.3))

module _ (chart : WiredChart) (is_wired : IsWired chart) where
  -- a closest race within the pair
  abbrev pub Spans : ℕ → ℕ → Type 0
  Spans e f = (g : ℕ) × (h : ℕ) × IsClosest chart g h × StandsWithin chart.events e f g h

  -- what stands within a pair that ends earlier stands within the pair
  spans_before : (e x f : ℕ) → before chart.events x f ≡ true → Spans e x → Spans e f
  spans_before e x f b (g, h, closest, within) = (
    g,
    h,
    closest,
    record {
      first = within.first;
      second = elim within.second [
        | inl same ↦ inr (subst (λ (z : ℕ). before chart.events z f ≡ true) (sym same) b)
        | inr less ↦ inr (before_trans chart.events h x f less b)
      ];
    },
  )

  -- and what stands within a pair that begins later
  spans_after : (e x f : ℕ) → before chart.events e x ≡ true → Spans x f → Spans e f
  spans_after e x f b (g, h, closest, within) = (
    g,
    h,
    closest,
    record {
      first = elim within.first [
        | inl same ↦ inr (subst (λ (z : ℕ). before chart.events e z ≡ true) (sym same) b)
        | inr more ↦ inr (before_trans chart.events e x g b more)
      ];
      second = within.second;
    },
  )

  -- an event between those of a race parts it: the one pair is a race, or the other
  pub parted : (e x f : ℕ) → IsRace chart e f → before chart.events e x ≡ true → before chart.events x f ≡ true → IsRace chart e x ⊎ IsRace chart x f
  parted e x f race low high =
      let known = before_parts chart.events e x low in
      elim (enforced_told chart is_wired e x known.0 known.1) [
        | inl first ↦ inr (high, λ second. race.1 (joined first second))
        | inr none ↦ inl (low, none)
      ]

  -- by the distance of the segments of the two events
  spans_by : (fuel e f : ℕ) → segment chart.events f ≤ segment chart.events e + fuel → IsRace chart e f → Spans e f
  spans_by zero e f near race = absurd (let p = before_parts chart.events e f race.0 in omega (arith, near, p.3))
  spans_by (suc fuel) e f near race =
      elim (find_below (λ x. before chart.events e x && before chart.events x f) (length chart.events)) [
        | inl found ↦
            let x : ℕ = found.0 in
            let both = and_parts _ _ found.2 in
            let low = before_parts chart.events e x both.0 in
            let high = before_parts chart.events x f both.1 in
            elim (parted e x f race both.0 both.1) [
              | inl first ↦ spans_before e x f both.1 (spans_by fuel e x (omega (arith, near, high.3)) first)
              | inr second ↦ spans_after e x f both.0 (spans_by fuel x f (omega (arith, near, low.3)) second)
            ]
        | inr none ↦ (
          e,
          f,
          record {
            race = race;
            next = λ x low high. clash (and_from _ _ low high) (none x (before_parts chart.events e x low).1);
          },
          record { first = inl refl; second = inl refl },
        )
      ]

  -- each race spans a closest race
  pub race_spans : (e f : ℕ) → IsRace chart e f → Spans e f
  race_spans e f race = spans_by (segment chart.events f) e f (omega arith) race
