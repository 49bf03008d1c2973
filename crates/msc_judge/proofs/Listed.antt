-- The pairs of all events are those of each, one after another.
use Rattle.std.proofs.Common.{◌≡◌, suc, zero, ℕ, ◌+◌, Bool, List, ◌++◌, length, refl, sym, ap, ◌∙◌, subst, arith}
use Rattle.std.specs.List.{All}
use Rattle.std.proofs.lemmas.List.Elements.{All-from_get_or}
use Rattle.msc_chart.specs.Lists.{pairs_of, pairs_to}
use Rattle.msc_chart.specs.Orders.{IsRace}
use Rattle.msc_print.specs.Rows.{below}
use Rattle.msc_print.proofs.RowLemmas.{below_more}
use Rattle.msc_race.specs.Views.{wiring_of, AreRacesOf}
use Rattle.msc_race.specs.Wired.{EnforcedChart}
use Rattle.msc_race.proofs.Listing.Raced.{race_at}
use Rattle.msc_reason.proofs.Sums.{kept_below, kept_more, kept_none, kept_all}
use Rattle.msc_reason.specs.Counting.{is_listed, listed}
use Rattle.msc_reason.specs.Marked.{cause_in, listed_from}
use Rattle.msc_reason.specs.declared.left_out.LeftOut.{LeftOut}

-- of those that pass a test
pub all_of : (test : ℕ → ℕ → Bool) (n : ℕ) → below (λ e. pairs_to test e n) n ≡ pairs_of test n
unfolding pairs_of
all_of test n = refl

module _ (e : EnforcedChart) (allowed : LeftOut) (closest : Bool) where
  -- of the races that are listed, so far
  listed_below : (k : ℕ) → below (listed_from e allowed closest) k ≡ kept_below e (is_listed e allowed closest (cause_in e)) k
  listed_below zero = sym (kept_none e (is_listed e allowed closest (cause_in e)))
  listed_below (suc k) =
      let test = is_listed e allowed closest (cause_in e) in
      let one : k + 1 ≡ suc k = omega arith in
      subst (λ (m : ℕ). below (listed_from e allowed closest) m ≡ kept_below e test m) one
      (below_more (listed_from e allowed closest) k
      ∙ ap (λ (l : List (ℕ × ℕ)). l ++ listed_from e allowed closest k) (listed_below k) ∙ sym (kept_more e test k))

  -- and of all of them
  pub all_listed : below (listed_from e allowed closest) (length e.chart.events) ≡ listed e allowed closest (cause_in e)
  all_listed = listed_below (length e.chart.events) ∙ kept_all e (is_listed e allowed closest (cause_in e)) (length e.chart.events) refl

-- races that a renderer fits can be printed
pub can_print_all : (fits : Type 0) (e : EnforcedChart) (pairs : List (ℕ × ℕ)) → fits → AreRacesOf e pairs → All (λ p. fits × IsRace (wiring_of e) p.0 p.1) pairs
can_print_all fits e pairs is are =
    All-from_get_or (λ p. fits × IsRace (wiring_of e) p.0 p.1) pairs (0, 0) (λ i within. (is, race_at e pairs i within are))
