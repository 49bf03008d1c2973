-- The races of scenarios that are listed first there, scenario by scenario.
use Rattle.std.proofs.Common.{◌≡◌, ℕ, suc, List, [], ◌∷◌, ◌++◌, length, refl, ap, ap₂, subst}
use Rattle.msc_chart.specs.declared.queue.Queues.{Queues}
use Rattle.msc_chart.specs.Drawings.{Drawing, IsAccepted}
use Rattle.msc_race.specs.Laws.{AWitnessExists}
use Rattle.msc_race.specs.ShortLaws.{AShortWitnessExists}
use Rattle.msc_race.specs.Views.{races_of}
use Rattle.msc_race.specs.Wired.{enforced_chart, EnforcedChart, IsEnforced}
use Rattle.msc_reason.specs.Counting.{listed}
use Rattle.msc_reason.specs.Marked.{cause_in}
use Rattle.msc_reason.specs.declared.left_out.LeftOut.{LeftOut}
use Rattle.msc_judge.proofs.Asked.{all_tables, are_shown, tables_of}
use Rattle.msc_judge.specs.Findings.{run_of}
use Rattle.msc_diagram.proofs.Told.{no_texts}
use Rattle.msc_diagram.specs.Checks.{IsLeft}
use Rattle.msc_diagram.specs.NewRaces.{new_lists, IsNewIn}
use Rattle.msc_diagram.specs.Places.{above_with, fresh}
use Rattle.msc_diagram.specs.Scenarios.{asked_of, new_in, places_from, Case}
use Rattle.msc_diagram.specs.declared.check.ScenarioCheck.{ScenarioCheck}
use Rattle.msc_diagram.specs.declared.place.EventPlace.{EventPlace}
use Rattle.msc_diagram.specs.declared.scenario.Scenario.{Scenario}

-- what was found of a chart under an architecture
pub record SawNew (k : ScenarioCheck) (s : Scenario) (left : LeftOut) (above with_them : List (EventPlace × EventPlace)) (new : List (ℕ × ℕ)) (e : EnforcedChart) : Type 0 where
  pub is : IsEnforced e
  pub accepted : IsAccepted e.chart
  pub left_is : IsLeft k s (races_of e) left
  pub new_is : new ≡ fresh s above (listed e left k.options.closest (cause_in e))
  pub with_them_is : with_them ≡ above_with s above (listed e left k.options.closest (cause_in e))

-- by the enforced order it is known which of its races are listed first there
pub new_seen : (k : ScenarioCheck) (s : Scenario) (left : LeftOut) (above with_them : List (EventPlace × EventPlace)) (new : List (ℕ × ℕ)) (e : EnforcedChart)
    → e.chart ≡ s.chart → e.queues ≡ k.queues → AWitnessExists → AShortWitnessExists → SawNew k s left above with_them new e
    → IsNewIn s k above with_them new
new_seen k s left above with_them new e chart its exists shorts saw =
    let same : e ≡ enforced_chart s.chart k.queues e.order = ap₂ (λ (d : Drawing) (a : Queues). enforced_chart d a e.order) chart its in
    let now = enforced_chart s.chart k.queues e.order in
    let found = subst (SawNew k s left above with_them new) same saw in
    let known = all_tables now found.is found.accepted exists shorts in
    let tables = tables_of now known.0 known.1 in
    record {
      known = record { scenario = s; order = e.order; left = left; runs = run_of k.options.short tables; texts = no_texts };
      scenario = refl;
      is = record { accepted = found.accepted; enforced = found.is; causes = known.2.causes; left_is = found.left_is; shown = are_shown k.options.short now tables known.2 };
      new_is = found.new_is;
      with_them_is = found.with_them_is;
    }

-- the lists of one scenario more
pub lists_more : (k : ScenarioCheck) (above : List (EventPlace × EventPlace)) (cases : List Case) (c : Case)
    → new_lists k above (cases ++ c ∷ []) ≡ new_lists k above cases ++ new_in k (places_from (asked_of k) above cases) c ∷ []
lists_more k above [] c = refl
lists_more k above (d ∷ cases) c =
    ap (λ (l : List (List (ℕ × ℕ))). new_in k above d ∷ l) (lists_more k (above_with d.scenario above (asked_of k d)) cases c)

-- there are as many lists as scenarios
pub lists_long : (k : ScenarioCheck) (above : List (EventPlace × EventPlace)) (cases : List Case)
    → length (new_lists k above cases) ≡ length cases
lists_long k above [] = refl
lists_long k above (c ∷ cases) =
    ap suc (lists_long k (above_with c.scenario above (asked_of k c)) cases)
