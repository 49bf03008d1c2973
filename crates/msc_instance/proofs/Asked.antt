-- Events that a gate has let, one more at a time.
use Rattle.std.proofs.Common.{◌≡◌, ℕ, Bool, true, List, [], ◌∷◌, ◌++◌, ◌<◌, zero, suc, length, map, get_or, Some, slice_get, inl, inr, sym, ap, ◌∙◌, arith, subst, refl}
use Rattle.std.proofs.lemmas.Bool.{cases_eq}
use Rattle.std.proofs.lemmas.List.{length-map}
use Rattle.std.proofs.lemmas.Slice.Zip.{AllZip-long}
use Rattle.msc_chart.specs.declared.queue.Queues.{Queues}
use Rattle.msc_chart.specs.Lists.{occurs}
use Rattle.msc_chart.specs.Charts.{is_input}
use Rattle.msc_chart.specs.Drawings.{Drawing}
use Rattle.msc_chart.proofs.ListLemmas.{occurs_other}
use Rattle.msc_ending.specs.declared.end.End.{End}
use Rattle.msc_ending.specs.declared.end.End.TheVariants.{Finished}
use Rattle.msc_execution.specs.Running.{Left}
use Rattle.msc_instance.specs.declared.ends.InstanceEnd.{InstanceEnd}
use Rattle.msc_instance.specs.declared.threads.Job.{Job}
use Rattle.msc_instance.specs.Views.{ends_of, left_by}
use Rattle.msc_instance.specs.Gates.{Rule, AreLet, EndsAtInput, WasLet}
use Rattle.msc_instance.specs.Threads.{RunsFrom, AreJobs, HaveRun}
use Rattle.msc_instance.proofs.Answered.{like_at}

module _ (lets : ℕ → ℕ → Bool) (i : ℕ) (log after : List ℕ) (e : ℕ) (noted : after ≡ log ++ e ∷ []) where
  -- it has let this one too
  pub let_more : lets i e ≡ true → AreLet lets i log → AreLet lets i after
  let_more yes' all x there = elim (cases_eq x e) [
    | inl same ↦ subst (λ n. lets i n ≡ true) (sym same) yes'
    | inr other ↦ all x (sym (occurs_other log e x other) ∙ sym (ap (λ l. occurs l x) noted) ∙ there)
  ]

  -- it may have stopped the instance at this one, an input
  pub ends_at_input : (d : Drawing) → is_input d.events e ≡ true → AreLet lets i log → EndsAtInput lets d i after
  ends_at_input d takes all = record { before = log; input = e; whole = noted; takes = takes; others = all }

-- what stands at a place of what came back
left_at : (ran : List InstanceEnd) (i : ℕ) → i < length ran
    → (r : InstanceEnd) × (slice_get ran i ≡ Some r)
    × (get_or (map (λ (x : Left). x.log) (map left_by ran)) i [] ≡ r.log.items)
    × (get_or (map (λ (x : Left). x.end) (map left_by ran)) i Finished ≡ r.end)
left_at [] i lt = absurd (omega arith)
left_at (r ∷ ran) zero lt = (r, refl, refl, refl)
left_at (r ∷ ran) (suc i) lt = left_at ran i (omega arith)

-- of all instances of a chart the gate has let what they logged
pub all_let : (d : Drawing) (gate : Rule) (patience : ℕ) (queues : Queues) (jobs : List Job) (ran : List InstanceEnd)
    → AreJobs queues d jobs → HaveRun d gate patience jobs ran → (logs : List (List ℕ)) (ends : List End)
    → logs ≡ map (λ (x : Left). x.log) (map left_by ran) → ends ≡ map (λ (x : Left). x.end) (map left_by ran)
    → (i : ℕ) → i < length d.instances → WasLet gate.lets d i (get_or logs i []) (get_or ends i Finished)
all_let d gate patience queues jobs ran are have logs ends logs_are ends_are i below =
    let R : Job → InstanceEnd → Type 0 = λ k s. RunsFrom d k.number gate patience k.ends.value s in
    let many = AllZip-long R jobs ran have in
    let (r, at, log, end) = left_at ran i (omega (arith, many, below, are.wiring.many, length-map jobs (λ (j : Job). ends_of j.ends.value))) in
    let (j, here, run) = like_at R jobs ran have i r at in
    let own : WasLet gate.lets d i r.log.items r.end =
    subst (λ (n : ℕ). WasLet gate.lets d n r.log.items r.end) (are.numbers i j here) run.1 in
    subst (λ (l : List ℕ). WasLet gate.lets d i l (get_or ends i Finished))
    (sym (ap (λ (l : List (List ℕ)). get_or l i []) logs_are ∙ log))
    (subst (λ (e : End). WasLet gate.lets d i r.log.items e)
    (sym (ap (λ (l : List End). get_or l i Finished) ends_are ∙ end)) own)
