-- Runs of instances beside what they began with, and the room of their logs.
use Rattle.std.proofs.Common.{◌≡◌, ℕ, zero, suc, ◌+◌, ◌-◌, ◌<◌, ◌≤◌, Bool, true, List, [], ◌∷◌, ◌++◌, length, filter, map, reverse, Some, slice_get, refl, arith, subst, nat_eq}
use Rattle.std.specs.List.{AllZip, range_with_len}
use Rattle.std.proofs.lemmas.Bool.{eqb-true}
use Rattle.std.proofs.lemmas.List.{length-map, reverse-append}
use Rattle.std.proofs.lemmas.Slice.Zip.{AllZip-long}
use Rattle.std.proofs.lemmas.Option.{get_or_from_slice_get, slice_get_within}
use Rattle.msc_chart.proofs.ListLemmas.{by_test}
use Rattle.msc_chart.specs.declared.queue.Queues.{Queues}
use Rattle.msc_chart.specs.Charts.{line}
use Rattle.msc_chart.specs.Drawings.{Drawing, IsLine}
use Rattle.msc_execution.proofs.Lists.Words.{filter_yes, filter_no}
use Rattle.msc_execution.specs.Roles.{EndLists, role}
use Rattle.msc_execution.specs.Logs.{line_events}
use Rattle.msc_execution.specs.Running.{Left, HasRun}
use Rattle.msc_execution.specs.Settling.{HaveRunFrom}
use Rattle.msc_instance.specs.declared.ends.InstanceEnd.{InstanceEnd}
use Rattle.msc_instance.specs.declared.threads.Job.{Job}
use Rattle.msc_instance.specs.Views.{ends_of, left_by}
use Rattle.msc_instance.specs.Gates.{Rule, WasLet}
use Rattle.msc_instance.specs.Threads.{RunsFrom, AreJobs, HaveRun}

-- one more on each side
pub paired_more : {A B : Type 0} (R : A → B → Type 0) (xs : List A) (ys : List B) (x : A) (y : B)
    → AllZip R xs ys → R x y → AllZip R (xs ++ x ∷ []) (ys ++ y ∷ [])
paired_more R [] [] x y h k = (k, tt)
paired_more R [] (b ∷ ys) x y h k = absurd h
paired_more R (a ∷ xs) [] x y h k = absurd h
paired_more R (a ∷ xs) (b ∷ ys) x y h k = (h.0, paired_more R xs ys x y h.1 k)

-- both lists turned round
pub paired_back : {A B : Type 0} (R : A → B → Type 0) (xs : List A) (ys : List B) → AllZip R xs ys → AllZip R (reverse xs) (reverse ys)
paired_back R [] [] h = tt
paired_back R [] (y ∷ ys) h = absurd h
paired_back R (x ∷ xs) [] h = absurd h
paired_back R (x ∷ xs) (y ∷ ys) h =
    let a : reverse (x ∷ xs) ≡ reverse xs ++ x ∷ [] = reverse-append (x ∷ []) xs in
    let b : reverse (y ∷ ys) ≡ reverse ys ++ y ∷ [] = reverse-append (y ∷ []) ys in
    rw (a, b) (paired_more R (reverse xs) (reverse ys) x y (paired_back R xs ys h.1) h.0)

-- a pair of the two lists, by what is shown of it
pub paired_at : {A B C D : Type 0} (R : A → B → Type 0) (f : A → C) (g : B → D) (xs : List A) (ys : List B) → AllZip R xs ys
    → (i : ℕ) (c : C) (d : D) → slice_get (map f xs) i ≡ Some c → slice_get (map g ys) i ≡ Some d
    → (x : A) × (y : B) × (slice_get xs i ≡ Some x) × (f x ≡ c) × (g y ≡ d) × R x y
paired_at R f g [] ys h i c d at back = cc
paired_at R f g (x ∷ xs) [] h i c d at back = absurd h
paired_at R f g (x ∷ xs) (y ∷ ys) h zero c d at back = let a : f x ≡ c = cc in let b : g y ≡ d = cc in (x, y, refl, a, b, h.0)
paired_at R f g (x ∷ xs) (y ∷ ys) h (suc i) c d at back = paired_at R f g xs ys h.1 i c d at back

module _ (d : Drawing) (gate : Rule) (patience : ℕ) where
  -- what the jobs of a chart leave are runs from fresh ends
  pub runs_from_fresh : (queues : Queues) (jobs : List Job) (ran : List InstanceEnd) → AreJobs queues d jobs → HaveRun d gate patience jobs ran
      → HaveRunFrom queues d gate.is_open patience (map (λ (j : Job). ends_of j.ends.value) jobs) (map left_by ran)
  runs_from_fresh queues jobs ran are have =
      let R : Job → InstanceEnd → Type 0 = λ k s. RunsFrom d k.number gate patience k.ends.value s in
      let many = AllZip-long (λ (k : Job) (s : InstanceEnd). RunsFrom d k.number gate patience k.ends.value s) jobs ran have in
      record {
        many = omega (arith, many, length-map ran left_by, length-map jobs (λ (j : Job). ends_of j.ends.value));
        each = λ i e r at back.
            let (j, s, here, begins, leaves, run) = paired_at R (λ (j : Job). ends_of j.ends.value) left_by jobs ran have i e r at back in
            let number : j.number ≡ i = are.numbers i j here in
            let within = slice_get_within jobs i j here in
            let under : j.ends.value.queues ≡ queues =
            subst (λ (k : Job). k.ends.value.queues ≡ queues) (get_or_from_slice_get jobs i j j here) (are.under i j within) in
            let one : HasRun (role queues d i) gate.is_open patience (ends_of j.ends.value) (left_by s) =
            subst (λ (q : Queues). HasRun (role q d i) gate.is_open patience (ends_of j.ends.value) (left_by s)) under
            (subst (λ (n : ℕ). HasRun (role j.ends.value.queues d n) gate.is_open patience (ends_of j.ends.value) (left_by s)) number run.0) in
            subst (λ (l : Left). HasRun (role queues d i) gate.is_open patience e l) leaves
            (subst (λ (b : EndLists). HasRun (role queues d i) gate.is_open patience b (left_by s)) begins one);
      }

-- numbers of a range that all lie between two bounds are no more than these are apart
few_between : (p : ℕ → Bool) (start end a n : ℕ) → ((e : ℕ) → a ≤ e → e < a + n → p e ≡ true → (start ≤ e) × (e < end))
    → (length (filter p (range_with_len a n)) ≤ end - a) × (length (filter p (range_with_len a n)) ≤ end - start)
few_between p start end a zero lies = (omega arith, omega arith)
few_between p start end a (suc n) lies =
    let (low, all) = few_between p start end (a + 1) n (λ e le lt yes. lies e (omega arith) (omega arith) yes) in
    by_test (p a)
    (λ yes.
    let here = lies a (omega arith) (omega arith) yes in
    rw (filter_yes p a (range_with_len (a + 1) n) yes) (omega (arith, low, here.0, here.1), omega (arith, low, here.0, here.1)))
    (λ no. rw (filter_no p a (range_with_len (a + 1) n) no) (omega (arith, low), all))

-- a line has no more events than its range
pub line_room : (d : Drawing) (i start end : ℕ) → IsLine d i start end → length (line_events d i) ≤ end - start
unfolding line_events
line_room d i start end is =
    (few_between (λ e. nat_eq (line d.events e) i) start end 0 (length d.events)
    (λ e low lt yes. (is e (omega arith)).0 (eqb-true (line d.events e) i yes))).1
