-- What was put of all scenarios is what is printed of them.
use Rattle.std.proofs.Common.{◌≡◌, ℕ, List, [], ◌++◌, Option, Result, Ok, Err, length, take, refl, sym, ap, ◌∙◌, inr, subst, append_assoc, arith}
use Rattle.std.specs.Io.KnownBytes.{Appends}
use Rattle.std.proofs.lemmas.List.{take_all}
use Rattle.msc_print.proofs.Putting.{pages_in, pages_out, pages_then}
use Rattle.msc_print.specs.declared.page.WriteFault.{WriteFault}
use Rattle.msc_print.specs.declared.page.WriteFault.TheVariants.{Memory, Device}
use Rattle.msc_diagram.specs.declared.check.ScenarioCheck.{ScenarioCheck}
use Rattle.msc_diagram.specs.Counts.{place_counts}
use Rattle.msc_diagram.specs.Judging.{asked, bottom_text, judged_of, told_so_far, AreCounted, AreCountsAbove, AreTextsIn, BeginsScenarios, JudgesScenarios, TellsScenarios}
use Rattle.msc_diagram.specs.Scenarios.{cases_text, passed_of, AreCases, AreTold, Case}
use Rattle.msc_diagram.specs.Stale.{stale_marks}
use Rattle.msc_diagram.specs.Telling.{has_heads, AreToldBy, PutsCases, TellsCases}
use Rattle.msc_diagram.specs.declared.cases.Asked.{Asked}
use Rattle.msc_diagram.specs.declared.judging.DiagramFormat.{DiagramFormat}
use Rattle.msc_diagram.specs.declared.judging.Judged.{Judged}
use Rattle.msc_diagram.specs.declared.numbers.PlaceCounts.{PlaceCounts}
use Rattle.msc_diagram.specs.declared.place.EventPlace.{EventPlace}
use Rattle.msc_diagram.specs.declared.scenario.Scenario.{Scenario}

module _ {W : Type 0} (contents : W → Option (List ℕ)) (top : List ℕ) (scenarios : List Scenario) (q : ScenarioCheck) (form : DiagramFormat) (a : Asked) (page : List ℕ)
    (are : (l : List Scenario) (cases : List Case) → AreCases a.check l cases → AreCases (asked form q) l cases)
    (counted : EventPlace × EventPlace → ℕ) (are_counted : AreCounted form scenarios q counted)
    (tells : (cases : List Case) → AreToldBy a [] cases → AreTold (AreTextsIn form q.queues (length scenarios) counted) (asked form q) 1 [] cases) where
  -- how an answer is told
  abbrev pub TellsAll : Result Judged WriteFault → W → W → Type 0
  TellsAll = TellsScenarios contents (JudgesScenarios top scenarios q form) (BeginsScenarios top scenarios q form)

  -- what is told of the first scenarios is the page and their text
  abbrev pub IsSoFar : PlaceCounts → List Case → Type 0
  IsSoFar counts cases = told_so_far form top q (length scenarios) counts cases ≡ page ++ cases_text (has_heads a.format) a.check 1 [] cases

  module _ (counts : PlaceCounts) (above : AreCountsAbove form scenarios q counts) (so_far : (cases : List Case) → IsSoFar counts cases) where
    -- where a fault came while scenarios were put
    pub all_stop : (f : WriteFault) (old new : W) (below : List (EventPlace × EventPlace)) (last : List ℕ)
        → TellsCases a scenarios [] below (contents old) (contents new) page last (Err f) → TellsAll (Err f) old new
    all_stop Memory old new below last stops = inr (
      page ++ cases_text (has_heads a.format) a.check 1 [] stops.cases,
      record {
        counts = counts;
        above = above;
        first = stops.first;
        cases = stops.cases;
        are = are (take stops.first scenarios) stops.cases stops.are;
        counted = counted;
        are_counted = are_counted;
        told = tells stops.cases stops.told;
        text = sym (so_far stops.cases);
      },
      stops.begun,
    )
    all_stop Device old new below last stops = tt

    -- or behind them
    pub all_stop_below : (old new : W) (below : List (EventPlace × EventPlace)) (last : List ℕ) (passed : ℕ)
        → PutsCases a scenarios [] below (contents old) (contents new) page last passed → TellsAll (Err Memory) old new
    all_stop_below old new below last passed p =
        let text = cases_text (has_heads a.format) a.check 1 [] p.cases in
        inr (
          page ++ text,
          record {
            counts = counts;
            above = above;
            first = length scenarios;
            cases = p.cases;
            are = subst (λ (l : List Scenario). AreCases (asked form q) l p.cases) (sym (take_all (length scenarios) scenarios (omega arith))) (are scenarios p.cases p.are);
            counted = counted;
            are_counted = are_counted;
            told = tells p.cases p.told;
            text = sym (so_far p.cases);
          },
          (p.put.0, last, p.put.1, p.put.2),
        )

  -- and where all went out
  pub all_end : (old mid new : W) (below : List (EventPlace × EventPlace)) (last final bottom : List ℕ) (passed : ℕ) (answer : Judged)
      → (p : PutsCases a scenarios [] below (contents old) (contents mid) page last passed) → IsSoFar (place_counts (asked form q) p.cases) p.cases
      → final ≡ last ++ bottom → bottom ≡ bottom_text form q (length scenarios) (place_counts (asked form q) p.cases) (stale_marks (asked form q) p.cases) (passed_of (asked form q) p.cases)
      → answer ≡ judged_of form (place_counts (asked form q) p.cases) (stale_marks (asked form q) p.cases) → Appends (contents mid) (contents new) final → TellsAll (Ok answer) old new
  all_end old mid new below last final bottom passed answer p so_far ended is none out =
      let text = cases_text (has_heads a.format) a.check 1 [] p.cases in (
        page ++ (text ++ bottom),
        record {
          cases = p.cases;
          are = are scenarios p.cases p.are;
          counted = counted;
          are_counted = are_counted;
          told = tells p.cases p.told;
          answered = none;
          text = sym (append_assoc page text bottom) ∙ ap (λ (t : List ℕ). t ++ bottom) (sym so_far)
              ∙ ap (λ (t : List ℕ). told_so_far form top q (length scenarios) (place_counts (asked form q) p.cases) p.cases ++ t) is;
        },
        pages_out (contents old) (contents mid) (contents new) page final (text ++ bottom) (page ++ (text ++ bottom)) refl
            (pages_then (contents old) (contents mid) (contents mid) page last final text bottom p.put (pages_in (contents mid) last final bottom ended)) out,
      )
