-- A whole answer: heading, findings and end.
use Rattle.std.proofs.Common.{◌≡◌, ℕ, ◌-◌, Bool, List, [], ◌++◌, Some, length, take, ap, ◌∙◌, arith}
use Rattle.std.specs.List.{flat_map}
use Rattle.msc_race.specs.Wired.{EnforcedChart}
use Rattle.msc_reason.specs.Counting.{listed}
use Rattle.msc_reason.specs.Marked.{cause_in}
use Rattle.msc_judge.proofs.Telling.{told_all}
use Rattle.msc_judge.specs.Findings.{answer_text, closing_totals, findings_from, heading_of, left_of, run_of, shown_text, totals_in, Tables, Texts}
use Rattle.msc_judge.specs.Rounds.{round_heading, rounds_text}
use Rattle.msc_judge.specs.Telling.{listed_text, number_in, rounds_from}
use Rattle.msc_judge.specs.declared.marking.Marking.{Marking}
use Rattle.msc_judge.specs.declared.options.CheckOptions.{CheckOptions}
use Rattle.msc_judge.specs.declared.renderer.Heading.{Heading}

-- what is put race by race is the answer
pub listed_is_answer : (t : Texts) (e : EnforcedChart) (q : CheckOptions) (m : Marking) (tables : Tables) (closes : Bool) → tables.causes ≡ cause_in e
    → listed_text t e q m closes (run_of q.short tables) ≡ answer_text t e q m tables closes
listed_is_answer t e q m tables closes causes =
    rw causes (ap (λ (r : List ℕ). t.heading (heading_of e q.closest (left_of q m) (cause_in e)) ++ (r ++ t.end m.stale.now (closing_totals closes q.most (length m.stale.now) (heading_of e q.closest (left_of q m) (cause_in e)))))
    (told_all (shown_text t.finding t.run q.show (run_of q.short tables)) q.why (cause_in e) q.most 0 (listed e (left_of q m) q.closest (cause_in e)) ∙ ap first none_less))
  where
    -- the first so many of all
    first : ℕ → List ℕ
    first n = flat_map (shown_text t.finding t.run q.show (run_of q.short tables)) (take n (findings_from q.why (cause_in e) 0 (listed e (left_of q m) q.closest (cause_in e))))

    -- nothing is told before them
    none_less : q.most - 0 ≡ q.most
    none_less = omega arith

-- what is put pair by pair of two rounds is what is written of them
pub rounds_are_told : (t : Texts) (two : EnforcedChart) (q : CheckOptions) (tables : Tables) (stale : ℕ) (h : Heading) (pairs : List (ℕ × ℕ)) → tables.causes ≡ cause_in two
    → rounds_from t two q stale (run_of q.short tables) h pairs ≡ rounds_text t two q tables (number_in h) (totals_in q.most stale (Some (length pairs)) h) pairs
rounds_are_told t two q tables stale h pairs causes =
    rw causes (ap (λ (r : List ℕ). t.heading (round_heading two.queues (length pairs)) ++ (r ++ t.end [] (Some (totals_in q.most stale (Some (length pairs)) h))))
    (told_all (shown_text t.finding t.run q.show (run_of q.short tables)) q.why (cause_in two) q.most (number_in h) pairs))

-- the same where the heading and its number are known by others
pub rounds_as_told : (t : Texts) (two : EnforcedChart) (q : CheckOptions) (tables : Tables) (stale : ℕ) (h k : Heading) (n : ℕ) (pairs : List (ℕ × ℕ)) → tables.causes ≡ cause_in two
    → h ≡ k → number_in k ≡ n
    → rounds_from t two q stale (run_of q.short tables) h pairs ≡ rounds_text t two q tables n (totals_in q.most stale (Some (length pairs)) k) pairs
rounds_as_told t two q tables stale h k n pairs causes same number =
    ap (λ (x : Heading). rounds_from t two q stale (run_of q.short tables) x pairs) same
    ∙ rounds_are_told t two q tables stale k pairs causes
    ∙ ap (λ (x : ℕ). rounds_text t two q tables x (totals_in q.most stale (Some (length pairs)) k) pairs) number
