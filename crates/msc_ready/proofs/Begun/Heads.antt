-- What is first in the queues after a run.
use Rattle.std.proofs.Common.{◌≡◌, ◌≢◌, ℕ, zero, suc, ◌<◌, not, ◌↔◌, Bool, true, false, List, [], ◌∷◌, ◌++◌, length, get_or, filter, refl, sym, ap, ◌∙◌, subst, arith, inl, inr, set, get_or-set_other, get_or-set_same}
use Rattle.std.proofs.lemmas.Bool.{cases_eq, eq-eqb, eqb-true, and_parts, false_from_ne_true}
use Rattle.std.proofs.lemmas.List.{get_or-replicate, length-replicate}
use Rattle.std.proofs.Math.ListN.{length-set, replicate}
use Rattle.msc_chart.specs.Lists.{IsFirst}
use Rattle.msc_chart.specs.Charts.{partner, is_output, is_local}
use Rattle.msc_chart.specs.Orders.{WiredChart, IsWired, queue}
use Rattle.msc_chart.specs.Runs.{Run, MayCome, is_waiting, state}
use Rattle.msc_race.proofs.Making.StateLemmas.{state_sent_elsewhere, state_taken_elsewhere, state_passed}
use Rattle.msc_chart.proofs.Drawn.{output_or_input}
use Rattle.msc_ready.specs.Beginnings.{HasMarks, HasHeads, IsHead}

-- a list of which no item passes has an empty filter
pub none_passes : (p : ℕ → Bool) (xs : List ℕ) → ((k : ℕ) → k < length xs → p (get_or xs k 0) ≡ false) → filter p xs ≡ []
none_passes p [] none = refl
none_passes p (x ∷ xs) none =
    let first : p x ≡ false = none 0 (omega arith) in
    rw first (none_passes p xs (λ k below. none (suc k) (omega arith)))

-- the first item that passes is the first of the filter
pub first_passes : (p : ℕ → Bool) (none : ℕ) (xs : List ℕ) (k : ℕ) → ((j : ℕ) → j < k → p (get_or xs j 0) ≡ false)
    → k < length xs → p (get_or xs k 0) ≡ true → IsHead none (filter p xs) (get_or xs k 0)
first_passes p none [] k before below passes = absurd (omega arith)
first_passes p none (x ∷ xs) zero before below passes = rw passes refl
first_passes p none (x ∷ xs) (suc k) before below passes =
    let first : p x ≡ false = before 0 (omega arith) in
    rw first (first_passes p none xs k (λ j less. before (suc j) (omega arith)) (omega arith) passes)

-- an empty list has no head
pub head_none : (none : ℕ) (xs : List ℕ) (h : ℕ) → xs ≡ [] → h ≡ none → IsHead none xs h
head_none none xs h empty is = rw empty is

-- the head is the first where there is one
pub head_first : (none : ℕ) (xs : List ℕ) (h s : ℕ) → IsHead none xs h → s ≢ none → (h ≡ s) ↔ IsFirst xs s
head_first none [] h s is other = (λ same. other (sym same ∙ is), λ first. absurd first)
head_first none (x ∷ xs) h s is other = (λ same. sym is ∙ same, λ first. is ∙ first)

-- the queues are empty yet
pub none_ahead : (chart : WiredChart) (queues k n : ℕ) (heads : List ℕ) → k ≡ queues → n ≡ length chart.events → heads ≡ replicate k n
    → HasHeads chart queues [] heads
none_ahead chart queues k n heads size number all =
    let same : heads ≡ replicate queues n = all ∙ ap (λ (m : ℕ). replicate m n) size in
    rw same (record { each = length-replicate queues n; head = λ q below. get_or-replicate queues q n 0 below ∙ number })

module _ (chart : WiredChart) (q : ℕ) (n : ℕ) (run : List ℕ) (done : List Bool) (marks : HasMarks n run done) (x : ℕ) where
  -- no output waits in no queue
  pub waits_not_output : is_output chart.events x ≡ false → false ≡ is_waiting chart q run x
  unfolding is_waiting
  waits_not_output out = rw out refl

  -- nor does one of another queue
  pub waits_not_here : (queue chart x ≡ q → ⊥) → false ≡ is_waiting chart q run x
  unfolding is_waiting
  waits_not_here other = sym (false_from_ne_true _ (λ h. other (eqb-true _ _ (and_parts _ _ (and_parts _ _ h).0).1)))

  -- and one of the queue while its input has not occurred
  pub waits_while : (b : Bool) → is_output chart.events x ≡ true → queue chart x ≡ q → partner chart.events x < n
      → b ≡ get_or done (partner chart.events x) false → not b ≡ is_waiting chart q run x
  unfolding is_waiting
  waits_while b o same below read =
      rw (o, eq-eqb _ _ same) (ap not (read ∙ marks.told (partner chart.events x) below))

module _ (chart : WiredChart) (is_wired : IsWired chart) (run : List ℕ) (x : ℕ) (is_run : Run chart run) (may : MayCome chart run x) where
  -- other queues stay as they were
  pub other_queue : is_local chart.events x ≡ false → (q : ℕ) → queue chart x ≢ q → state chart q (run ++ x ∷ []) ≡ state chart q run
  other_queue away q other =
      elim (output_or_input chart.events x may.event away) [
        | inl o ↦ state_sent_elsewhere chart run x is_wired is_run may o q other
        | inr i ↦ state_taken_elsewhere chart run x is_wired is_run may i q other
      ]

  -- the heads after x has occurred, an output or an input
  pub heads_after : (queues : ℕ) (heads : List ℕ) (h : ℕ) → is_local chart.events x ≡ false → queue chart x < queues
      → HasHeads chart queues run heads → IsHead (length chart.events) (state chart (queue chart x) (run ++ x ∷ [])) h
      → HasHeads chart queues (run ++ x ∷ []) (set heads (queue chart x) h)
  heads_after queues heads h away inside before head = record {
    each = length-set heads (queue chart x) h ∙ before.each;
    head = λ q below. elim (cases_eq q (queue chart x)) [
      | inl same ↦
          let size = before.each in
          let at : get_or (set heads (queue chart x) h) (queue chart x) 0 ≡ h = get_or-set_same heads (queue chart x) h 0 (omega (arith, size, inside)) in
          subst (λ (k : ℕ). IsHead (length chart.events) (state chart k (run ++ x ∷ [])) (get_or (set heads (queue chart x) h) k 0)) (sym same)
          (subst (λ (k : ℕ). IsHead (length chart.events) (state chart (queue chart x) (run ++ x ∷ [])) k) (sym at) head)
      | inr other ↦
          let kept = other_queue away q (λ same. other (sym same)) in
          let at = get_or-set_other heads (queue chart x) q h 0 other in
          subst (λ (k : ℕ). IsHead (length chart.events) (state chart q (run ++ x ∷ [])) k) (sym at)
          (subst (λ (l : List ℕ). IsHead (length chart.events) l (get_or heads q 0)) (sym kept) (before.head q below))
    ];
  }

  -- and after a local event
  pub heads_passed : (queues : ℕ) (heads : List ℕ) → is_local chart.events x ≡ true → HasHeads chart queues run heads
      → HasHeads chart queues (run ++ x ∷ []) heads
  heads_passed queues heads own before = record {
    each = before.each;
    head = λ q below.
        subst (λ (l : List ℕ). IsHead (length chart.events) l (get_or heads q 0)) (sym (state_passed chart run x is_wired is_run may own q)) (before.head q below);
  }
