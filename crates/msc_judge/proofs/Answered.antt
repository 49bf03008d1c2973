-- What is answered, by what is printed: there are tables by which it is right.
use Rattle.std.proofs.Common.{◌≡◌, ℕ, List, ◌++◌, true, false, Option, None, Some, Result, Err, length, refl, ap, ap₂, ◌∙◌, subst}
use Rattle.std.specs.Result.{IfOk}
use Rattle.std.proofs.lemmas.Result.{IfOk-weaker}
use Rattle.msc_chart.specs.Drawings.{IsAccepted}
use Rattle.msc_print.specs.Pages.{Writes}
use Rattle.msc_print.specs.declared.page.WriteFault.{WriteFault}
use Rattle.msc_print.specs.declared.page.WriteFault.TheVariants.{Memory}
use Rattle.msc_print.proofs.Putting.{begins_none}
use Rattle.msc_race.specs.Laws.{AWitnessExists}
use Rattle.msc_race.specs.ShortLaws.{AShortWitnessExists}
use Rattle.msc_race.specs.Views.{wiring_of}
use Rattle.msc_race.specs.Wired.{EnforcedChart, IsEnforced}
use Rattle.msc_reason.specs.Counting.{listed}
use Rattle.msc_reason.specs.LeftOut.{of_kinds}
use Rattle.msc_reason.specs.Marked.{cause_in}
use Rattle.msc_judge.specs.Between.{told_of}
use Rattle.msc_judge.specs.Findings.{heading_of, left_of, run_of, totals_in, Answers, AreShown, Texts}
use Rattle.msc_judge.specs.Rounds.{AnswersRounds}
use Rattle.msc_judge.specs.Telling.{listed_text, rounds_from}
use Rattle.msc_judge.specs.declared.marking.Marking.{Marking}
use Rattle.msc_judge.specs.declared.options.CheckOptions.{CheckOptions}
use Rattle.msc_judge.specs.declared.renderer.Heading.{Heading}
use Rattle.msc_judge.specs.declared.renderer.Totals.{Totals}
use Rattle.msc_judge.proofs.Asked.{all_tables, are_shown, tables_of}
use Rattle.msc_judge.proofs.BetweenLemmas.{told_list}
use Rattle.msc_judge.proofs.Numbering.{number_listed}
use Rattle.msc_judge.proofs.Whole.{listed_is_answer, rounds_as_told}

-- the laws that there are runs which show races
module _ (exists : AWitnessExists) (shorts : AShortWitnessExists) (q : CheckOptions) (m : Marking) (e : EnforcedChart) (is : IsEnforced e) (accepted : IsAccepted e.chart) (t : Texts) where
  -- what is printed of the races of a chart
  pub answers_list : (result : Result Totals WriteFault) (before after : Option (List ℕ))
      → ((text : List ℕ) → (runs : ℕ × ℕ → List ℕ) × AreShown q.short (wiring_of e) runs × (text ≡ listed_text t e q m true runs) → Writes result before after text)
      → IfOk result (λ x. x ≡ totals_in q.most (length m.stale.now) None (heading_of e q.closest (left_of q m) (cause_in e)))
      → Answers e q m t result before after
  answers_list result before after written found =
      let tables = all_tables e is accepted exists shorts in
      let its = tables_of e tables.0 tables.1 in
      let runs = run_of q.short its in
      record {
        tables = its;
        are = tables.2;
        written = subst (Writes result before after) (listed_is_answer t e q m its true refl)
            (written (listed_text t e q m true runs) (runs, are_shown q.short e its tables.2, refl));
        found = found;
      }

  -- nothing, if memory ran out before
  pub answers_nothing : (result : Result Totals WriteFault) (now : Option (List ℕ)) → result ≡ Err Memory → Answers e q m t result now now
  answers_nothing result now stopped =
      let tables = all_tables e is accepted exists shorts in
      rw stopped (record { tables = tables_of e tables.0 tables.1; are = tables.2; written = begins_none _ _; found = tt })

  -- Two rounds of the chart.
  module _ (two : EnforcedChart) (is' : IsEnforced two) (accepted' : IsAccepted two.chart) (t' : Texts) where
    -- what is printed of the races of a chart, and then of those between its rounds
    pub answers_rounds : (result : Result Totals WriteFault) (before after : Option (List ℕ)) (h : Heading)
        → h ≡ heading_of e q.closest (left_of q m) (cause_in e)
        → ((text : List ℕ) → (xs ys : List ℕ)
        × ((runs : ℕ × ℕ → List ℕ) × AreShown q.short (wiring_of e) runs × (xs ≡ listed_text t e q m false runs))
        × ((runs : ℕ × ℕ → List ℕ) × AreShown q.short (wiring_of two) runs × (ys ≡ rounds_from t' two q (length m.stale.now) runs h (told_of e.chart two (of_kinds q.allowed))))
        × (text ≡ xs ++ ys) → Writes result before after text)
        → IfOk result (λ x. x ≡ totals_in q.most (length m.stale.now) (Some (length (told_of e.chart two (of_kinds q.allowed)))) h)
        → AnswersRounds e two q m t t' result before after
    answers_rounds result before after h heading written found =
        let tables = all_tables e is accepted exists shorts in
        let tables' = all_tables two is' accepted' exists shorts in
        let its = tables_of e tables.0 tables.1 in
        let its' = tables_of two tables'.0 tables'.1 in
        let runs = run_of q.short its in
        let runs' = run_of q.short its' in
        let pairs = told_of e.chart two (of_kinds q.allowed) in
        let above : List ℕ = listed_text t e q m false runs in
        let below : List ℕ = rounds_from t' two q (length m.stale.now) runs' h pairs in
        record {
          tables = its;
          are = tables.2;
          of_two = its';
          are_two = tables'.2;
          pairs = pairs;
          told = told_list e.chart two (of_kinds q.allowed) is' refl;
          written = subst (Writes result before after)
              (ap₂ (λ (a b : List ℕ). a ++ b) (listed_is_answer t e q m its false refl)
              (rounds_as_told t' two q its' (length m.stale.now) h (heading_of e q.closest (left_of q m) (cause_in e)) (length (listed e (left_of q m) q.closest (cause_in e))) pairs refl heading (number_listed e q.closest (left_of q m) (cause_in e))))
              (written (above ++ below) (above, below, (runs, are_shown q.short e its tables.2, refl), (runs', are_shown q.short two its' tables'.2, refl), refl));
          found = IfOk-weaker result _ _ (λ x is. is ∙ ap (totals_in q.most (length m.stale.now) (Some (length pairs))) heading) found;
        }

    -- nothing, if memory ran out before
    pub answers_none : (result : Result Totals WriteFault) (now : Option (List ℕ)) → result ≡ Err Memory → AnswersRounds e two q m t t' result now now
    answers_none result now stopped =
        let tables = all_tables e is accepted exists shorts in
        let tables' = all_tables two is' accepted' exists shorts in
        rw stopped (record {
          tables = tables_of e tables.0 tables.1;
          are = tables.2;
          of_two = tables_of two tables'.0 tables'.1;
          are_two = tables'.2;
          pairs = told_of e.chart two (of_kinds q.allowed);
          told = told_list e.chart two (of_kinds q.allowed) is' refl;
          written = begins_none _ _;
          found = tt;
        })
