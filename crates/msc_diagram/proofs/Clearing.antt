-- What is known of a scenario, of what was seen of its chart, and whether none of its races counts.
use Rattle.std.proofs.Common.{◌≡◌, ℕ, ◌+◌, Bool, true, cond, not, map, nat_eq, length, List, refl, ap₂, subst, Result, Ok, Err}
use Rattle.std.specs.Prelude.{IfOk, OnOk, is_some}
use Rattle.std.specs.List.{filter, list_any}
use Rattle.msc_chart.specs.declared.queue.Queues.{Queues}
use Rattle.msc_chart.specs.Drawings.{Drawing, IsAccepted}
use Rattle.msc_race.specs.Laws.{AWitnessExists}
use Rattle.msc_race.specs.ShortLaws.{AShortWitnessExists}
use Rattle.msc_race.specs.Wired.{enforced_chart, EnforcedChart, IsEnforced}
use Rattle.msc_race.specs.Views.{races_of}
use Rattle.msc_reason.specs.Counting.{counting, listed}
use Rattle.msc_reason.specs.LeftOut.{of_kinds}
use Rattle.msc_reason.specs.Marked.{cause_in}
use Rattle.msc_reason.specs.declared.left_out.LeftOut.{LeftOut}
use Rattle.msc_judge.proofs.Asked.{all_tables, are_shown, tables_of}
use Rattle.msc_judge.specs.Findings.{run_of}
use Rattle.msc_diagram.proofs.Told.{no_texts}
use Rattle.msc_diagram.specs.Checks.{IsLeft}
use Rattle.msc_diagram.specs.Counts.{names}
use Rattle.msc_diagram.specs.Judging.{PassesCase}
use Rattle.msc_diagram.specs.Places.{above_with, places_in, same_places}
use Rattle.msc_diagram.specs.Stale.{used_among}
use Rattle.msc_diagram.specs.Tallies.{tally_at}
use Rattle.msc_diagram.specs.Telling.{SeesCase}
use Rattle.msc_diagram.specs.declared.answer.Answer.{Answer}
use Rattle.msc_diagram.specs.declared.check.ScenarioCheck.{ScenarioCheck}
use Rattle.msc_diagram.specs.declared.place.EventPlace.{EventPlace}
use Rattle.msc_diagram.specs.declared.scenario.Scenario.{Scenario}

-- what holds of an answer holds of one that is right where that is
pub answer_holds : {A E : Type 0} (P Q : A → Type 0) (r : Result A E) → ((a : A) → P a → Q a) → IfOk r P → IfOk r Q
answer_holds P Q (Ok a) then p = then a p
answer_holds P Q (Err e) then p = tt

-- and so where a fact stands in its place
pub success_holds : {A E P Q : Type 0} (r : Result A E) → (P → Q) → OnOk r P → OnOk r Q
success_holds (Ok a) then p = then p
success_holds (Err e) then p = tt

-- of these marks, those that accept none of these races of a scenario
abbrev pub left_idle : ScenarioCheck → Scenario → List (ℕ × ℕ) → List ℕ → List ℕ
left_idle q s races idle = filter (λ n. not (used_among q.marks s races n)) idle

-- what was seen of a chart under an architecture
pub record Saw (q : ScenarioCheck) (tallies : Bool) (s : Scenario) (left : LeftOut) (old new : Answer) (e : EnforcedChart) : Type 0 where
  pub is : IsEnforced e
  pub accepted : IsAccepted e.chart
  pub left_is : IsLeft q s (races_of e) left
  pub all : new.all ≡ above_with s old.all (races_of e)
  pub named : names q ≡ true → new.named ≡ above_with s old.named (counting e (of_kinds q.options.allowed) (cause_in e))
  pub counted : is_some q.marks ≡ true → new.counting ≡ above_with s old.counting (counting e left (cause_in e))
  pub few : new.listed ≡ above_with s old.listed (listed e left q.options.closest (cause_in e))
  pub tally : tallies ≡ true → (p : EventPlace × EventPlace)
      → tally_at new.tally p ≡ tally_at old.tally p + cond (list_any (same_places p) (map (places_in s) (counting e left (cause_in e)))) 1 0
  pub idle : new.idle.items ≡ left_idle q s (races_of e) old.idle.items

-- by the enforced order it is known what of a scenario was seen
pub case_seen : (q : ScenarioCheck) (tallies : Bool) (s : Scenario) (left : LeftOut) (old new : Answer) (e : EnforcedChart)
    → e.chart ≡ s.chart → e.queues ≡ q.queues → AWitnessExists → AShortWitnessExists → Saw q tallies s left old new e → SeesCase s q tallies old new
case_seen q tallies s left old new e chart its exists shorts saw =
    let same : e ≡ enforced_chart s.chart q.queues e.order = ap₂ (λ (d : Drawing) (a : Queues). enforced_chart d a e.order) chart its in
    let now = enforced_chart s.chart q.queues e.order in
    let found = subst (Saw q tallies s left old new) same saw in
    let known = all_tables now found.is found.accepted exists shorts in
    let tables = tables_of now known.0 known.1 in
    record {
      known = record { scenario = s; order = e.order; left = left; runs = run_of q.options.short tables; texts = no_texts };
      scenario = refl;
      is = record { accepted = found.accepted; enforced = found.is; causes = known.2.causes; left_is = found.left_is; shown = are_shown q.options.short now tables known.2 };
      all = found.all;
      named = found.named;
      counting = found.counted;
      listed = found.few;
      tally = found.tally;
      idle = found.idle;
    }

-- what was found of a chart
pub record Cleared (q : ScenarioCheck) (s : Scenario) (left : LeftOut) (old new : List ℕ) (none : Bool) (e : EnforcedChart) : Type 0 where
  pub is : IsEnforced e
  pub accepted : IsAccepted e.chart
  pub left_is : IsLeft q s (races_of e) left
  pub told : none ≡ nat_eq (length (counting e left (cause_in e))) 0
  pub idle : new ≡ left_idle q s (races_of e) old

-- by the enforced order it is known whether none counts
pub case_passes : (q : ScenarioCheck) (s : Scenario) (left : LeftOut) (old new : List ℕ) (none : Bool) (e : EnforcedChart)
    → e.chart ≡ s.chart → e.queues ≡ q.queues → AWitnessExists → AShortWitnessExists → Cleared q s left old new none e → PassesCase s q old new none
case_passes q s left old new none e chart its exists shorts cleared =
    let same : e ≡ enforced_chart s.chart q.queues e.order = ap₂ (λ (d : Drawing) (a : Queues). enforced_chart d a e.order) chart its in
    let now = enforced_chart s.chart q.queues e.order in
    let found = subst (Cleared q s left old new none) same cleared in
    let all = all_tables now found.is found.accepted exists shorts in
    let tables = tables_of now all.0 all.1 in (
      record { scenario = s; order = e.order; left = left; runs = run_of q.options.short tables; texts = no_texts },
      refl,
      record { accepted = found.accepted; enforced = found.is; causes = all.2.causes; left_is = found.left_is; shown = are_shown q.options.short now tables all.2 },
      found.told,
      found.idle,
    )
