-- What is known of a scenario, of what was found of its chart.
use Rattle.std.proofs.Common.{◌≡◌, ℕ, cond, List, Option, Some, None, Result, Ok, Err, length, refl, sym, ap₂, ◌∙◌, inl, inr, subst}
use Rattle.msc_chart.specs.declared.queue.Queues.{Queues}
use Rattle.msc_chart.specs.Drawings.{Drawing, IsAccepted}
use Rattle.msc_order.specs.Tables.{Table}
use Rattle.msc_race.specs.Laws.{AWitnessExists}
use Rattle.msc_race.specs.ShortLaws.{AShortWitnessExists}
use Rattle.msc_race.specs.Views.{races_of, wiring_of}
use Rattle.msc_race.specs.Wired.{enforced_chart, EnforcedChart, IsEnforced}
use Rattle.msc_reason.specs.Counting.{counting, listed}
use Rattle.msc_reason.specs.Marked.{cause_in}
use Rattle.msc_reason.specs.Selected.{Selected}
use Rattle.msc_reason.specs.declared.left_out.LeftOut.{LeftOut}
use Rattle.msc_judge.proofs.Asked.{all_tables, are_shown, tables_of}
use Rattle.msc_judge.specs.Findings.{run_of, AreShown, Texts}
use Rattle.msc_judge.specs.Telling.{race_text}
use Rattle.msc_print.specs.declared.page.WriteFault.{WriteFault}
use Rattle.msc_print.specs.declared.page.WriteFault.TheVariants.{Memory, Device}
use Rattle.msc_diagram.specs.Checks.{IsLeft}
use Rattle.msc_diagram.specs.Places.{above_with, fresh}
use Rattle.msc_diagram.specs.Scenarios.{asked_of, case_text, counting_of, head_text, told_text, AreTextsIf, Case, IsCase}
use Rattle.msc_diagram.specs.Telling.{has_heads, AreTextsBy, IsTold, PutsCase, PutsNew, TellsCase}
use Rattle.msc_diagram.specs.declared.cases.Asked.{Asked}
use Rattle.msc_diagram.specs.declared.place.EventPlace.{EventPlace}
use Rattle.msc_diagram.specs.declared.scenario.Scenario.{Scenario}

module _ (a : Asked) (i : ℕ) (s : Scenario) (left : LeftOut) (above : List (EventPlace × EventPlace)) (races count : ℕ)
    (r : Result (Unit {0}) WriteFault) (before after : Option (List ℕ)) (old new : List ℕ) where
  -- the races of a chart under an architecture that are asked for
  abbrev pub listed_by : EnforcedChart → List (ℕ × ℕ)
  listed_by e = listed e left a.check.options.closest (cause_in e)

  -- what is known of texts of these races
  abbrev are_of : List (ℕ × ℕ) → Texts → Type 0
  are_of pairs texts = AreTextsIf (AreTextsBy a.format a.check.queues) i (length above) (fresh s above pairs) s texts

  -- what is written of these races with texts, by a chart under an architecture and runs that show its
  -- events, if the scenario has so many races
  abbrev text_of : ℕ → EnforcedChart → List (ℕ × ℕ) → (ℕ × ℕ → List ℕ) → Texts → List ℕ
  text_of n e pairs runs texts =
      told_text (race_text texts e a.check.options runs) (head_text (cond (has_heads a.format) (Some i) None) s.choices n)
      a.check.options.most (length above) (fresh s above pairs)

  -- what was put, by any runs that show the events
  abbrev pub IsToldOf : Selected → Type 0
  IsToldOf x = (runs : ℕ × ℕ → List ℕ) → AreShown a.check.options.short (wiring_of x.judged) runs
      → PutsNew (are_of (listed x.judged x.allowed x.closest (cause_in x.judged)))
      (text_of races x.judged (listed x.judged x.allowed x.closest (cause_in x.judged)) runs) r before after old new

  -- what was found of the chart
  pub record Found (e : EnforcedChart) : Type 0 where
    pub is : IsEnforced e
    pub accepted : IsAccepted e.chart
    pub left_is : IsLeft a.check s (races_of e) left
    pub raced : races ≡ length (races_of e)
    pub counted : count ≡ length (counting e left (cause_in e))
    pub put : (runs : ℕ × ℕ → List ℕ) → AreShown a.check.options.short (wiring_of e) runs
        → PutsNew (are_of (listed_by e)) (text_of races e (listed_by e) runs) r before after old new

  -- what is known of the scenario then, with any texts
  pub record IsKnown (e : EnforcedChart) : Type 0 where
    pub case : Texts → Case
    pub scenario : (texts : Texts) → (case texts).scenario ≡ s
    pub is : (texts : Texts) → IsCase a.check (case texts)
    pub counted : (texts : Texts) → count ≡ length (counting_of a.check (case texts))
    pub asked : (texts : Texts) → listed_by e ≡ asked_of a.check (case texts)
    pub put : PutsNew (λ texts. IsTold a i above (case texts)) (λ texts. case_text (has_heads a.format) a.check i above (case texts)) r before after old new

  of_order : AWitnessExists → AShortWitnessExists → (order : Table) → Found (enforced_chart s.chart a.check.queues order) → IsKnown (enforced_chart s.chart a.check.queues order)
  of_order exists shorts order found =
      let e = enforced_chart s.chart a.check.queues order in
      let all = all_tables e found.is found.accepted exists shorts in
      let tables = tables_of e all.0 all.1 in
      let runs = run_of a.check.options.short tables in
      let shown = are_shown a.check.options.short e tables all.2 in
      record {
        case = λ texts. record { scenario = s; order = order; left = left; runs = runs; texts = texts };
        scenario = λ texts. refl;
        is = λ texts. record { accepted = found.accepted; enforced = found.is; causes = all.2.causes; left_is = found.left_is; shown = shown };
        counted = λ texts. found.counted;
        asked = λ texts. refl;
        put = subst (λ (n : ℕ). PutsNew (are_of (listed_by e)) (text_of n e (listed_by e) runs) r before after old new) found.raced
            (found.put runs shown);
      }

  pub known_of : AWitnessExists → AShortWitnessExists → (e : EnforcedChart) → e.chart ≡ s.chart → e.queues ≡ a.check.queues → Found e → IsKnown e
  known_of exists shorts e chart queues found =
      let same : e ≡ enforced_chart s.chart a.check.queues e.order = ap₂ (λ (d : Drawing) (q : Queues). enforced_chart d q e.order) chart queues in
      subst IsKnown (sym same) (of_order exists shorts e.order (subst Found same found))

-- where it was put
pub case_put : (a : Asked) (i : ℕ) (s : Scenario) (left : LeftOut) (above below : List (EventPlace × EventPlace)) (races count : ℕ) (u : Unit {0}) (before after : Option (List ℕ)) (old new : List ℕ) (e : EnforcedChart)
    → IsKnown a i s left above races count (Ok u) before after old new e → below ≡ above_with s above (listed_by a i s left above races count (Ok u) before after old new e)
    → PutsCase a i s above below before after old new count
case_put a i s left above below races count u before after old new e known reported = by known.put
  where
    by : PutsNew (λ texts. IsTold a i above (known.case texts)) (λ texts. case_text (has_heads a.format) a.check i above (known.case texts)) (Ok u) before after old new
        → PutsCase a i s above below before after old new count
    by (inl (texts, told, put)) = record {
      known = known.case texts;
      scenario = known.scenario texts;
      is = known.is texts;
      counted = known.counted texts;
      reported = reported ∙ ap₂ (λ (x : Scenario) (l : List (ℕ × ℕ)). above_with x above l) (sym (known.scenario texts)) (known.asked texts);
      told = told;
      put = put;
    }
    by (inr (fails, begun)) = absurd cc

-- where a fault came while it was put
pub case_stops : (a : Asked) (i : ℕ) (s : Scenario) (left : LeftOut) (above below : List (EventPlace × EventPlace)) (races count : ℕ) (f : WriteFault) (before after : Option (List ℕ)) (old new last : List ℕ) (e : EnforcedChart)
    → IsKnown a i s left above races count (Err f) before after old new e → TellsCase a i s above below before after old last (Err f)
case_stops a i s left above below races count Memory before after old new last e known = by known.put
  where
    by : PutsNew (λ texts. IsTold a i above (known.case texts)) (λ texts. case_text (has_heads a.format) a.check i above (known.case texts)) (Err Memory) before after old new
        → TellsCase a i s above below before after old last (Err Memory)
    by (inl (texts, told, begun)) = inr (known.case texts, known.scenario texts, known.is texts, told, begun)
    by (inr (fails, begun)) = inl begun
case_stops a i s left above below races count Device before after old new last e known = tt
