-- What races lack, by the enforced order: it is a table of their causes.
use Rattle.std.proofs.Common.{◌≡◌, ℕ, Bool, true, false, not, cond, nat_eq, refl}
use Rattle.std.proofs.lemmas.Bool.{eqb-true, eq-eqb, not-true}
use Rattle.msc_chart.proofs.Drawn.{before_parts}
use Rattle.msc_chart.proofs.KindTests.{input_from_rest}
use Rattle.msc_chart.proofs.ListLemmas.{clash}
use Rattle.msc_chart.specs.Charts.{is_controlled, partner}
use Rattle.msc_chart.specs.Drawings.{IsAccepted}
use Rattle.msc_chart.specs.Orders.{queue, IsRace}
use Rattle.msc_order.specs.Tables.{orders}
use Rattle.msc_race.specs.Views.{wiring_of}
use Rattle.msc_race.specs.Wired.{EnforcedChart, IsEnforced}
use Rattle.msc_reason.proofs.OnePair.{race_input, share_from}
use Rattle.msc_reason.specs.Counting.{AreCauses}
use Rattle.msc_reason.specs.Causes.{IsKindOf}
use Rattle.msc_reason.specs.Marked.{kind_in, cause_in}
use Rattle.msc_reason.specs.declared.cause.RaceKind.{RaceKind}
use Rattle.msc_reason.specs.declared.cause.RaceKind.TheVariants.{Early, Queues, Unordered, Overtaken}

module _ (e : EnforcedChart) (is : IsEnforced e) (accepted : IsAccepted e.chart) (x y : ℕ) (race : IsRace (wiring_of e) x y) where
  -- what is said of a kind holds of the one that tests choose
  chosen : (P : RaceKind → Type 0) (one two three : Bool) → (one ≡ true → P Early) → (one ≡ false → not two ≡ true → P Queues)
      → (one ≡ false → two ≡ true → three ≡ true → P Overtaken) → (one ≡ false → two ≡ true → three ≡ false → P Unordered)
      → P (cond one Early (cond (not two) Queues (cond three Overtaken Unordered)))
  chosen P true two three early queues overtaken unordered = early refl
  chosen P false false three early queues overtaken unordered = queues refl refl
  chosen P false true true early queues overtaken unordered = overtaken refl refl refl
  chosen P false true false early queues overtaken unordered = unordered refl refl refl

  -- the kind of a race
  kind_is : IsKindOf (wiring_of e) x y (kind_in e x y)
  kind_is =
      let known = before_parts e.chart.events x y race.0 in
      let matched = accepted.matched in
      let one = λ (none : is_controlled e.chart.events x ≡ false). input_from_rest e.chart.events x known.0 none in
      chosen (IsKindOf (wiring_of e) x y) (is_controlled e.chart.events x) (nat_eq (queue (wiring_of e) x) (queue (wiring_of e) y))
      (orders e.order (partner e.chart.events y) (partner e.chart.events x))
      (λ early. early)
      (λ none other. (one none, λ same. clash (eq-eqb _ _ same) (not-true _ other)))
      (λ none same late. (
        share_from (wiring_of e) x y (one none) (race_input (wiring_of e) x y race) (eqb-true _ _ same),
        is.enforced.holds _ _ (matched.in_range y known.1) (matched.in_range x known.0) late,
      ))
      (λ none same free. (
        share_from (wiring_of e) x y (one none) (race_input (wiring_of e) x y race) (eqb-true _ _ same),
        λ late. clash (is.enforced.complete _ _ late) free,
      ))

-- so by the enforced order each race has its cause
pub all_causes : (e : EnforcedChart) → IsEnforced e → IsAccepted e.chart → AreCauses e (cause_in e)
all_causes e is accepted x y race =
    let known = before_parts e.chart.events x y race.0 in
    record {
      kind = kind_is e is accepted x y race;
      first = refl;
      second = refl;
      always = (is.enforced.holds y x known.1 known.0, is.enforced.complete y x);
    }
