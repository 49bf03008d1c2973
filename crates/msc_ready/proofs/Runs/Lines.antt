-- A ready run is a run in which ready lines keep the drawn order.
use Rattle.std.proofs.Common.{◌≡◌, ℕ, Bool, true, false, inl, inr, List, [], ◌∷◌, ◌++◌, eqb, refl, sym, ap, subst, append_assoc}
use Rattle.std.proofs.lemmas.Bool.{eq-eqb, or_parts}
use Rattle.msc_chart.specs.Lists.{occurs, until, Steps}
use Rattle.msc_chart.specs.Orders.{WiredChart}
use Rattle.msc_chart.specs.Runs.{Run, MayCome}
use Rattle.msc_ready.specs.Readiness.{MayComeReady, ReadyRun, KeepsReadyLines}
use Rattle.msc_ready.proofs.Shared.{step_at, before_parts, controlled_or_input, occurs-head, occurs-right}
use Rattle.msc_ready.proofs.Runs.Keeping.{run_of_ready}

-- what stands before a number that is new is all that stood there
until_new : (past xs : List ℕ) (e : ℕ) → occurs past e ≡ false → until (past ++ e ∷ xs) e ≡ past
unfolding occurs until
until_new [] xs e new = rw (eq-eqb e e refl) refl
until_new (x ∷ past) xs e new =
    let both = or_parts (eqb x e) (occurs past e) new in
    rw both.0 (ap (λ (l : List ℕ). x ∷ l) (until_new past xs e both.1))

module _ (chart : WiredChart) (ready : ℕ → Bool) where
  -- a ready run is a run, and ready lines keep the drawn order in it
  pub lines_of_run : (events : List ℕ) → ReadyRun chart ready events → Run chart events × KeepsReadyLines chart ready events
  lines_of_run events run = (
    run_of_ready chart ready [] events run,
    λ x y b set there.
        let at_y = (step_at (MayComeReady chart ready) events y run there).1 in
        elim (controlled_or_input chart.events y (before_parts chart.events x y b).1) [
          | inl c ↦ at_y.may.controlled c x b
          | inr i ↦ at_y.awaited i set x b
        ],
  )

  -- steps of a run whose ready lines keep the drawn order are those of a ready run
  ready_steps : (past xs : List ℕ) → Steps (MayCome chart) past xs → KeepsReadyLines chart ready (past ++ xs)
      → Steps (MayComeReady chart ready) past xs
  ready_steps past [] steps keeps = tt
  ready_steps past (e ∷ xs) steps keeps = (
    record {
      may = steps.0;
      awaited = λ i set x b.
          let there : occurs (past ++ e ∷ xs) e ≡ true = there_is past xs e in
          subst (λ (l : List ℕ). occurs l x ≡ true) (until_new past xs e steps.0.new) (keeps x e b set there);
    },
    ready_steps (past ++ e ∷ []) xs steps.1
        (subst (λ (l : List ℕ). KeepsReadyLines chart ready l) (more past xs e) keeps),
  )
    where
      -- what was put behind a list is in it
      there_is : (past xs : List ℕ) (e : ℕ) → occurs (past ++ e ∷ xs) e ≡ true
      there_is past xs e = occurs-right past (e ∷ xs) e (occurs-head e xs)

      -- one number more behind it
      more : (past xs : List ℕ) (e : ℕ) → past ++ e ∷ xs ≡ (past ++ e ∷ []) ++ xs
      more past xs e = sym (append_assoc past (e ∷ []) xs)

  -- and the other way round
  pub run_of_lines : (events : List ℕ) → Run chart events → KeepsReadyLines chart ready events → ReadyRun chart ready events
  run_of_lines events run keeps = ready_steps [] events run keeps
