-- What instances start from, gathered one after the other.
use Rattle.std.proofs.Common.{◌≡◌, ℕ, zero, suc, ◌<◌, List, [], ◌∷◌, ◌++◌, length, get_or, map, ◌⊎◌, inl, inr, Some, slice_get, refl, sym, ap, ◌∙◌, arith, subst}
use Rattle.std.specs.Prelude.{All}
use Rattle.std.proofs.lemmas.List.{append-nil, append_assoc, nil_from_length, length-map, get_or-map, map-append}
use Rattle.std.proofs.lemmas.List.Elements.{All-push, All-nil}
use Rattle.std.proofs.lemmas.Option.{get_or_from_slice_get, slice_get_within}
use Rattle.msc_chart.specs.declared.queue.Queues.{Queues}
use Rattle.msc_chart.specs.Drawings.{Drawing}
use Rattle.msc_execution.specs.Roles.{EndLists, role, IsWiring, IsFit}
use Rattle.msc_instance.specs.declared.ends.InstanceEnds.{InstanceEnds}
use Rattle.msc_instance.specs.declared.threads.Job.{Job}
use Rattle.msc_instance.specs.Views.{ends_of}
use Rattle.msc_instance.specs.Threads.{AreJobs, IsReady}

-- what stands behind a list, at its length
pub at_seam : {A : Type 0} (xs ys : List A) (x : A) → slice_get (xs ++ x ∷ ys) (length xs) ≡ Some x
at_seam [] ys x = refl
at_seam (y ∷ xs) ys x = at_seam xs ys x

-- what stands in a list with one more stands in the list, or is the one
pub early_or_last : {A : Type 0} (xs : List A) (x : A) (i : ℕ) (y : A) → slice_get (xs ++ x ∷ []) i ≡ Some y
    → (slice_get xs i ≡ Some y) ⊎ ((i ≡ length xs) × (x ≡ y))
early_or_last [] x zero y at = (let same : x ≡ y = cc in inr (refl, same))
early_or_last [] x (suc i) y at = cc
early_or_last (z ∷ xs) x zero y at = inl at
early_or_last (z ∷ xs) x (suc i) y at = elim (early_or_last xs x i y at) [
  | inl early ↦ inl early
  | inr last ↦ inr (omega (arith, last.0), last.1)
]

-- the jobs have these ends so far, each its number, and each may be run
pub record ArePrepared (d : Drawing) (ends : List InstanceEnds) (jobs : List Job) : Type 0 where
  pub same : map (λ (j : Job). j.ends.value) jobs ≡ ends
  pub numbers : (i : ℕ) (j : Job) → slice_get jobs i ≡ Some j → j.number ≡ i
  pub ready : All (IsReady d) jobs

-- the ends of jobs, read in one step or in two
composed : (jobs : List Job) → map ends_of (map (λ (j : Job). j.ends.value) jobs) ≡ map (λ (j : Job). ends_of j.ends.value) jobs
composed [] = refl
composed (j ∷ jobs) = ap (λ (l : List EndLists). ends_of j.ends.value ∷ l) (composed jobs)

-- no jobs are prepared for no ends
pub none_prepared : (d : Drawing) (jobs : List Job) → jobs ≡ [] → ArePrepared d [] jobs
none_prepared d jobs is = rw is (record { same = refl; numbers = λ i j at. cc; ready = All-nil (IsReady d) })

module _ (d : Drawing) (ends : List InstanceEnds) (jobs : List Job) (are : ArePrepared d ends jobs) where
  -- there are as many jobs as ends
  pub prepared_many : length jobs ≡ length ends
  prepared_many = sym (length-map jobs (λ (j : Job). j.ends.value)) ∙ ap length are.same

  -- one job more
  pub prepared_more : (j : Job) (e : InstanceEnds) (more : List Job) → more ≡ jobs ++ j ∷ [] → j.ends.value ≡ e → j.number ≡ length ends → IsReady d j
      → ArePrepared d (ends ++ e ∷ []) more
  prepared_more j e more is same number ready = rw is (record {
    same = map-append (λ (k : Job). k.ends.value) jobs (j ∷ []) ∙ ap (λ l. l ++ j.ends.value ∷ []) are.same ∙ ap (λ x. ends ++ x ∷ []) same;
    numbers = λ i k at. elim (early_or_last jobs j i k at) [
      | inl early ↦ are.numbers i k early
      | inr last ↦ sym (ap (λ (x : Job). x.number) last.1) ∙ number ∙ sym prepared_many ∙ sym last.0
    ];
    ready = All-push (IsReady d) jobs j are.ready ready;
  })

  -- the lists of the ends are those of the jobs
  ends_same : map ends_of ends ≡ map (λ (j : Job). ends_of j.ends.value) jobs
  ends_same = ap (map ends_of) (sym are.same) ∙ composed jobs

  -- all of them
  pub all_prepared : (queues : Queues) → IsWiring queues d (map ends_of ends) → All (λ (e : InstanceEnds). e.queues ≡ queues) ends → AreJobs queues d jobs
  all_prepared queues wiring under = record {
    wiring = subst (IsWiring queues d) ends_same wiring;
    numbers = are.numbers;
    under = λ k j lt.
        let there : get_or ends k j.ends.value ≡ (get_or jobs k j).ends.value =
        ap (λ l. get_or l k j.ends.value) (sym are.same) ∙ get_or-map (λ (x : Job). x.ends.value) jobs k j j.ends.value lt in
        sym (ap (λ (e : InstanceEnds). e.queues) there) ∙ under k j.ends.value (omega (arith, prepared_many));
    ready = are.ready;
  }

-- what is next of a list stands behind what was yielded of it
pub next_is : {A : Type 0} (all first before later rest : List A) (e : A) → first ≡ all → first ≡ before ++ later → later ≡ e ∷ rest
    → all ≡ before ++ e ∷ rest
next_is all first before later rest e a b c = sym a ∙ b ∙ ap (λ l. before ++ l) c

-- then one more was yielded of the list
pub yielded_more : {A : Type 0} (all before later rest : List A) (e : A) → all ≡ before ++ later → later ≡ e ∷ rest
    → all ≡ (before ++ e ∷ []) ++ rest
yielded_more all before later rest e whole next = whole ∙ ap (λ l. before ++ l) next ∙ sym (append_assoc before (e ∷ []) rest)

-- and where nothing is next, all of it was
pub yielded_all : {A : Type 0} (all first before later : List A) → first ≡ all → first ≡ before ++ later → length later ≡ 0 → before ≡ all
yielded_all all first before later same whole none =
    sym (sym same ∙ whole ∙ ap (λ l. before ++ l) (nil_from_length later none) ∙ append-nil before)

-- the next ends fit their instance
module _ (queues : Queues) (d : Drawing) (all before after : List InstanceEnds) (e : InstanceEnds) (is : all ≡ before ++ e ∷ after) where
  -- they stand right behind those before
  here : slice_get all (length before) ≡ Some e
  here = ap (λ l. slice_get l (length before)) is ∙ at_seam before after e

  -- so their instance is one of the chart
  pub next_known : length (map ends_of all) ≡ length d.instances → length before < length d.instances
  next_known many = let lt = slice_get_within all (length before) e here in omega (arith, many, length-map all ends_of)

  -- and where all ends fit their instances, so do these
  pub next_fits : All (λ (x : InstanceEnds). x.queues ≡ queues) all
      → ((i : ℕ) (x : InstanceEnds) → slice_get all i ≡ Some x → IsFit (role queues d i) (ends_of x))
      → IsFit (role e.queues d (length before)) (ends_of e)
  next_fits under fits =
      let lt = slice_get_within all (length before) e here in
      let same : e.queues ≡ queues =
      subst (λ (x : InstanceEnds). x.queues ≡ queues) (get_or_from_slice_get all (length before) e e here) (under (length before) e lt) in
      subst (λ (q : Queues). IsFit (role q d (length before)) (ends_of e)) (sym same) (fits (length before) e here)
