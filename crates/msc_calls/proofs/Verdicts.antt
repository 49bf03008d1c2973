-- What is printed for a verdict is the verdict and its races.
use Rattle.std.proofs.Common.{◌≡◌, ◌⊎◌, ℕ, Bool, true, false, ◌&&◌, List, [], length, nat_eq, Option, None, Ok, Err, refl, ap, ap₂, ◌∙◌, inl, inr, arith}
use Rattle.std.specs.Borrow.{Bor}
use Rattle.msc_chart.proofs.Drawn.{before_parts}
use Rattle.msc_chart.specs.declared.queue.Queues.{Queues}
use Rattle.msc_chart.specs.Drawings.{Drawing}
use Rattle.msc_chart.specs.Orders.{wired}
use Rattle.msc_race.proofs.Listing.Counts.{below_few}
use Rattle.msc_race.proofs.Listing.Pairs.{below_all}
use Rattle.msc_race.specs.declared.verdict.Verdict.{Verdict}
use Rattle.msc_race.specs.declared.verdict.Verdict.TheVariants.{Pass, Races}
use Rattle.msc_race.specs.Laws.{WitnessesAreWhole, WitnessesReverseRaces}
use Rattle.msc_race.specs.Races.{is_raced, verdict_by, EnforcedOrdersTellVerdicts, IsVerdict}
use Rattle.msc_race.specs.Views.{races_of}
use Rattle.msc_race.specs.Wired.{enforced_chart, EnforcedChart}
use Rattle.msc_reason.specs.Counting.{counting}
use Rattle.msc_reason.specs.PairTables.{PairTable}
use Rattle.msc_reason.specs.declared.cause.Cause.{Cause}
use Rattle.msc_reason.specs.declared.left_out.LeftOut.{LeftOut}
use Rattle.msc_judge.specs.declared.marking.Marking.{Marking}
use Rattle.msc_judge.specs.Findings.{passes_in, AreWitness}
use Rattle.msc_print.specs.Pages.{Tells}
use Rattle.msc_print.specs.declared.page.WriteFault.{WriteFault}
use Rattle.msc_print.specs.declared.page.WriteFault.TheVariants as writing
use Rattle.msc_report.specs.declared.fault.Fault.TheVariants.{Memory}
use Rattle.msc_report.specs.Refusals.{of_writing}
use Rattle.msc_calls.proofs.Plain.{counting_all, plain_text}
use Rattle.msc_calls.proofs.Told.{passes_told}
use Rattle.msc_source.specs.Texts.{IsChartOf}
use Rattle.msc_calls.specs.Checking.{BeginsVerdict, Prints, ShowsRaces, WritesVerdict}
use Rattle.msc_text.specs.Judging.{left_out, JudgesChart}
use Rattle.msc_calls.specs.Plain.{no_kind, plain, plain_style}
use Rattle.msc_text.specs.declared.judging.Judged.{Judged}
use Rattle.msc_text.specs.declared.judging.ChartFormat.TheVariants.{Lines}

-- each race of a verdict is reversed by the witness of its first event
shows_races : (queues : Queues) (d : Drawing) (runs : ℕ → List ℕ) (v : Verdict) → AreWitness (wired queues d) runs → IsVerdict (wired queues d) v
    → WitnessesAreWhole → WitnessesReverseRaces → ShowsRaces (wired queues d) runs v
shows_races queues d runs Pass witness said whole reverses e f (k, there) = absurd cc
shows_races queues d runs (Races pairs) witness said whole reverses e f there =
    let race = (said.0.races e f).1 there in
    let run = witness e (before_parts d.events e f race.0).0 in
    let is_whole = whole queues d e (runs e) run in
    (is_whole.0, is_whole.1, reverses queues d e (runs e) run f race)

-- where marks are not asked, a verdict passes where there is no race
passes_plain : (e : EnforcedChart) (m : Marking) (causes : ℕ → ℕ → Cause) → m.accepted ≡ None → m.stale.now ≡ []
    → (nat_eq (length (counting e (left_out no_kind m) causes)) 0 && nat_eq (length m.stale.now) 0) ≡ nat_eq (length (races_of e)) 0
passes_plain e m causes none no_stale =
    ap₂ (λ (accepted : Option (Bor PairTable)) (stale : List ℕ). by_marks accepted && nat_eq (length stale) 0) none no_stale
    ∙ and_yes (by_marks None)
    ∙ ap (λ (l : List (ℕ × ℕ)). nat_eq (length l) 0) (counting_all e causes)
  where
    -- whether no race counts, by what is accepted
    by_marks : Option (Bor PairTable) → Bool
    by_marks accepted = let left : LeftOut = record { kinds = no_kind; accepted = accepted } in nat_eq (length (counting e left causes)) 0

    -- what holds beside what holds
    and_yes : (b : Bool) → (b && true) ≡ b
    and_yes true = refl
    and_yes false = refl

module _ (text : List ℕ) (queues : Queues) (show : ℕ) (d : Drawing) (of_text : IsChartOf text d) (verdicts : EnforcedOrdersTellVerdicts) (whole : WitnessesAreWhole) (reverses : WitnessesReverseRaces) where
  -- what is printed of a text for a verdict is the verdict and its races
  prints : (found : Judged) (printed : List ℕ) → JudgesChart d queues (plain show) None false (Lines plain_style) found printed → Prints text queues show (passes_in found.totals) printed
  prints found printed judged =
      let e = enforced_chart d queues judged.order in
      let told = verdicts queues d judged.accepted judged.order judged.by_order.enforced in
      let v = verdict_by d.events judged.order in
      let few = judged.accepted.few_events in
      let most = below_few (is_raced d.events judged.order) (length d.events) (length d.events) few in
      let all = ap length (below_all (is_raced d.events judged.order) (length d.events) (length d.events) refl) in
      record {
        chart = d;
        of_text = of_text;
        verdict = v;
        races = told.0;
        reversed = told.1;
        answered = ap passes_in judged.answered ∙ passes_plain e judged.marking judged.tables.causes judged.marked.0 judged.marked.1
            ∙ passes_told (races_of e) (length (races_of e)) refl;
        shown = record {
          runs = judged.tables.runs;
          witness = judged.are.runs;
          reverse = shows_races queues d judged.tables.runs v judged.are.runs told.0 whole reverses;
          text = judged.text ∙ plain_text e 4294967295 show judged.marking judged.tables judged.marked.0 judged.marked.1 (omega (arith, most, all, few));
        };
      }

  -- what was told is written
  pub writes_verdict : {W : Type 0} (contents : W → Option (List ℕ)) (found : Judged) (old new : W)
      → Tells contents (JudgesChart d queues (plain show) None false (Lines plain_style)) (Ok found) old new
      → WritesVerdict text queues show (passes_in found.totals) (contents old) (contents new)
  writes_verdict contents found old new (printed, judged, wrote) = (printed, prints found printed judged, wrote)

  -- and where memory ran out a beginning of it, or nothing
  pub begins_verdict : {W : Type 0} (contents : W → Option (List ℕ)) (f : WriteFault) (old new : W)
      → Tells contents (JudgesChart d queues (plain show) None false (Lines plain_style)) (Err f) old new → of_writing f ≡ Memory
      → (new ≡ old) ⊎ BeginsVerdict text queues show (contents old) (contents new)
  begins_verdict contents writing.Memory old new (inl none) memory = inl none
  begins_verdict contents writing.Memory old new (inr (found, printed, judged, begun)) memory =
      inr (passes_in found.totals, printed, prints found printed judged, begun)
  begins_verdict contents writing.Device old new said memory = absurd cc
