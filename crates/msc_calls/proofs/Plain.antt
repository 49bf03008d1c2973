-- What is asked for a verdict is printed as the verdict and its races.
use Rattle.std.proofs.Common.{◌≡◌, zero, suc, ℕ, ◌+◌, ◌<◌, ◌≤◌, true, false, not, List, [], ◌∷◌, ◌++◌, Option, None, Some, length, take, drop, refl, sym, ap, ap₂, ◌∙◌, append_assoc, arith}
use Rattle.std.specs.Borrow.{Bor}
use Rattle.std.specs.List.{flat_map}
use Rattle.std.proofs.lemmas.Bool.{and_from, le-ltb, lt-ltb}
use Rattle.std.proofs.lemmas.List.{append-nil, take_all}
use Rattle.std.proofs.Math.Seq.{drop-nil, take-nil}
use Rattle.msc_chart.specs.Drawings.{Drawing}
use Rattle.msc_race.specs.Races.{verdict_of}
use Rattle.msc_race.specs.Views.{races_of}
use Rattle.msc_race.specs.Wired.{EnforcedChart}
use Rattle.msc_reason.proofs.Filtered.{filter_all}
use Rattle.msc_reason.specs.Counting.{counting, counts, is_listed, listed}
use Rattle.msc_reason.specs.Kinds.{has_kind}
use Rattle.msc_reason.specs.LeftOut.{of_kinds}
use Rattle.msc_reason.specs.PairTables.{PairTable}
use Rattle.msc_reason.specs.declared.left_out.LeftOut.{LeftOut}
use Rattle.msc_reason.specs.declared.cause.Cause.{Cause}
use Rattle.msc_reason.specs.declared.cause.RaceKind.{RaceKind}
use Rattle.msc_reason.specs.declared.cause.RaceKind.TheVariants.{Early, Queues as TwoQueues, Unordered, Overtaken}
use Rattle.msc_judge.specs.Findings.{answer_text, findings, findings_from, heading_of, run_of, shown_text as finding_shown, Tables, Texts}
use Rattle.msc_judge.specs.declared.marking.Marking.{Marking}
use Rattle.msc_judge.specs.declared.options.CheckOptions.{CheckOptions}
use Rattle.msc_report.specs.Lines.{finding_text}
use Rattle.msc_report.specs.Heads.{head_text}
use Rattle.msc_report.specs.Verdicts.{race_text, run_line}
use Rattle.msc_calls.proofs.Shown.{race_and_run}
use Rattle.msc_calls.proofs.Told.{checked_told}
use Rattle.msc_calls.specs.Checking.{checked_text, races_text, shown_text, unshown_text}
use Rattle.msc_text.specs.Judging.{texts_in}
use Rattle.msc_calls.specs.Plain.{no_kind, plain_style}
use Rattle.msc_text.specs.declared.judging.ChartFormat.TheVariants.{Lines}

-- each race counts, where no kind is left out
all_count : (causes : ℕ → ℕ → Cause) (p : ℕ × ℕ) → counts (of_kinds no_kind) causes p ≡ true
all_count causes p = by (causes p.0 p.1).kind
  where
    -- no kind is one of none
    by : (kind : RaceKind) → not (has_kind no_kind kind) ≡ true
    by Early = refl
    by TwoQueues = refl
    by Unordered = refl
    by Overtaken = refl

-- so all races do
pub counting_all : (e : EnforcedChart) (causes : ℕ → ℕ → Cause) → counting e (of_kinds no_kind) causes ≡ races_of e
counting_all e causes = filter_all (counts (of_kinds no_kind) causes) (races_of e) (all_count causes)

-- and all are listed
listed_all : (e : EnforcedChart) (causes : ℕ → ℕ → Cause) → listed e (of_kinds no_kind) false causes ≡ races_of e
listed_all e causes = filter_all (is_listed e (of_kinds no_kind) false causes) (races_of e) (λ p. and_from (counts (of_kinds no_kind) causes p) _ (all_count causes p) refl)

-- there are as many findings
found_all : (causes : ℕ → ℕ → Cause) (n : ℕ) (pairs : List (ℕ × ℕ)) → length (findings_from false causes n pairs) ≡ length pairs
found_all causes n [] = refl
found_all causes n (p ∷ pairs) = ap suc (found_all causes (n + 1) pairs)

module _ (d : Drawing) (runs : ℕ → List ℕ) (show : ℕ) (causes : ℕ → ℕ → Cause) where
  -- the text of these races as findings, numbered from here on
  abbrev found : ℕ → List (ℕ × ℕ) → List ℕ
  found n pairs = flat_map (finding_shown (finding_text None d) (λ run. run_line (Some run)) show (λ p. runs p.0)) (findings_from false causes n pairs)

  -- past the first, without runs
  found_unshown : (n : ℕ) (pairs : List (ℕ × ℕ)) → show ≤ n → found n pairs ≡ unshown_text d pairs
  found_unshown n [] past = refl
  found_unshown n (p ∷ pairs) past =
      rw (le-ltb n show past) (ap₂ (λ (s t : List ℕ). s ++ t) (append-nil (race_text d p.0 p.1 None)) (found_unshown (n + 1) pairs (omega (arith, past))))

  -- the first with their runs
  pub found_races : (n k : ℕ) (pairs : List (ℕ × ℕ)) → show ≡ n + k → found n pairs ≡ races_text d runs k pairs
  found_races n k [] is = rw (take-nil k, drop-nil k) refl
  found_races n zero (p ∷ pairs) is = found_unshown n (p ∷ pairs) (omega (arith, is))
  found_races n (suc k) (p ∷ pairs) is =
      let less : n < show = omega (arith, is) in
      rw (lt-ltb n show less) (ap₂ (λ (s t : List ℕ). s ++ t) (race_and_run d p.0 p.1 (runs p.0)) (found_races (n + 1) k pairs (omega (arith, is)))
      ∙ sym (append_assoc (race_text d p.0 p.1 (Some (runs p.0))) (shown_text d runs (take k pairs)) (unshown_text d (drop k pairs))))

-- an answer, by what marks accept and which accept none
abbrev by_marks : Texts → EnforcedChart → CheckOptions → Option (Bor PairTable) → List ℕ → Tables → List ℕ
by_marks r e q accepted stale t =
    let left : LeftOut = record { kinds = q.allowed; accepted = accepted } in
    r.heading (heading_of e q.closest left t.causes)
    ++ (flat_map (finding_shown r.finding r.run q.show (run_of q.short t)) (findings e q left t.causes) ++ r.end stale None)

-- so what is asked for a verdict is printed as it, where marks are not asked
pub plain_text : (e : EnforcedChart) (most show : ℕ) (m : Marking) (t : Tables) → m.accepted ≡ None → m.stale.now ≡ [] → length (races_of e) ≤ most
    → answer_text (texts_in (Lines plain_style) [] e.chart) e (record { closest = false; why = false; allowed = no_kind; most = most; show = show; short = false }) m t true
    ≡ checked_text e.chart e.queues t.runs show (verdict_of (races_of e))
plain_text e most show m t none no_stale few =
    let q : CheckOptions = record { closest = false; why = false; allowed = no_kind; most = most; show = show; short = false } in
    let listed_is = listed_all e t.causes in
    let long = found_all t.causes 0 (races_of e) in
    let first = ap (λ (l : List (ℕ × ℕ)). take most (findings_from false t.causes 0 l)) listed_is
    ∙ take_all most (findings_from false t.causes 0 (races_of e)) (omega (arith, few, long)) in
    ap₂ (λ (accepted : Option (Bor PairTable)) (stale : List ℕ). by_marks (texts_in (Lines plain_style) [] e.chart) e q accepted stale t) none no_stale
    ∙ ap₂ (λ (s r : List ℕ). s ++ r) (append-nil (head_text e.chart e.queues (length (races_of e))))
    (append-nil _ ∙ ap (flat_map (finding_shown (finding_text None e.chart) (λ run. run_line (Some run)) show (λ p. t.runs p.0))) first
    ∙ found_races e.chart t.runs show t.causes 0 show (races_of e) (omega arith))
    ∙ checked_told e.chart e.queues t.runs show (races_of e) (length (races_of e)) _ refl refl
