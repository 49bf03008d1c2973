-- What all lines have together is what each has by itself.
use Rattle.std.proofs.Common.{◌≡◌, ◌<◌, ◌≤◌, ℕ, zero, suc, ◌+◌, List, [], ◌∷◌, ◌++◌, length, get_or, replicate, Some, Result, Ok, Err, refl, sym, ap, ◌∙◌, subst, ⊎_elim, arith}
use Rattle.std.specs.List.{slice_get}
use Rattle.std.proofs.lemmas.Bool.{cases_lt}
use Rattle.std.proofs.lemmas.List.{append-nil, append_assoc, length_push, get_or-replicate, get_or_past, length-replicate}
use Rattle.msc_scenarios.specs.declared.steps.Step.{Step}
use Rattle.msc_mermaid.specs.declared.fault.ImportFault.{ImportFault}
use Rattle.msc_import.specs.declared.plan.Manner.{Manner}
use Rattle.msc_mermaid.specs.Gives.{◌>>=◌}
use Rattle.msc_mermaid.proofs.LawLemmas.{same_ok}
use Rattle.msc_import.specs.Plans.{Plan, plan_on, plans_of, plans_on, planned, planned_all, unplanned}

-- each line takes a step, the first of them having this number
Step_by : Manner → Step → ℕ → List Plan → List Plan → Type 0
Step_by manner s line [] qs = qs ≡ []
Step_by manner s line (p ∷ ps) [] = ⊥
Step_by manner s line (p ∷ ps) (q ∷ qs) = (planned manner line s p ≡ Ok q) × Step_by manner s (line + 1) ps qs

-- each line takes these steps
unfoldable pub Steps_by : Manner → List Step → ℕ → List Plan → List Plan → Type 0
Steps_by manner ss line [] qs = qs ≡ []
Steps_by manner ss line (p ∷ ps) [] = ⊥
Steps_by manner ss line (p ∷ ps) (q ∷ qs) = (plan_on manner line ss p ≡ Ok q) × Steps_by manner ss (line + 1) ps qs

module _ (manner : Manner) (s : Step) where
  -- those that took a step behind others
  Behind : List Plan → List Plan → List Plan → Type 0
  Behind done ps qs = (rs : List Plan) × (qs ≡ done ++ rs) × Step_by manner s (length done) ps rs

  one_behind : (done : List Plan) (p : Plan) (ps qs : List Plan) (r : Result Plan ImportFault) → planned manner (length done) s p ≡ r → (r >>= (λ q. planned_all manner s (done ++ q ∷ []) ps)) ≡ Ok qs → ((q : Plan) → planned_all manner s (done ++ q ∷ []) ps ≡ Ok qs → Behind (done ++ q ∷ []) ps qs) → Behind done (p ∷ ps) qs
  unfolding Behind Step_by
  one_behind done p ps qs (Ok q) e f rest =
      let b = rest q f in
      (q ∷ b.0, b.1 ∙ append_assoc done (q ∷ []) b.0, (e, subst (λ n. Step_by manner s n ps b.0) (length_push done q) b.2))
  one_behind done p ps qs (Err x) e f rest = cc

  all_behind : (done ps qs : List Plan) → planned_all manner s done ps ≡ Ok qs → Behind done ps qs
  unfolding planned_all Behind Step_by
  all_behind done [] qs e = ([], sym (same_ok (Ok done) done qs refl e) ∙ sym (append-nil done), refl)
  all_behind done (p ∷ ps) qs e =
      one_behind done p ps qs (planned manner (length done) s p) refl e (λ q f. all_behind (done ++ q ∷ []) ps qs f)

  all_step : (ps qs : List Plan) → planned_all manner s [] ps ≡ Ok qs → Step_by manner s 0 ps qs
  unfolding Behind
  all_step ps qs e =
      let b = all_behind [] ps qs e in subst (Step_by manner s 0 ps) (sym b.1) b.2

  -- a step and those behind it
  step_on : (ss : List Step) (line : ℕ) (ps rs qs : List Plan) → Step_by manner s line ps rs → Steps_by manner ss line rs qs → Steps_by manner (s ∷ ss) line ps qs
  unfolding Step_by Steps_by plan_on
  step_on ss line [] [] qs a b = b
  step_on ss line [] (r ∷ rs) qs a b = cc
  step_on ss line (p ∷ ps) [] qs a b = absurd a
  step_on ss line (p ∷ ps) (r ∷ rs) [] a b = absurd b
  step_on ss line (p ∷ ps) (r ∷ rs) (q ∷ qs) a b = (
    ap (λ x. x >>= (λ y. plan_on manner line ss y)) a.0 ∙ b.0,
    step_on ss (line + 1) ps rs qs a.1 b.1,
  )

module _ (manner : Manner) where
  no_step : (line : ℕ) (ps : List Plan) → Steps_by manner [] line ps ps
  unfolding Steps_by plan_on
  no_step line [] = refl
  no_step line (p ∷ ps) = (refl, no_step (line + 1) ps)

  first_step : (s : Step) (ss : List Step) (ps qs : List Plan) (r : Result (List Plan) ImportFault) → planned_all manner s [] ps ≡ r → (r >>= (λ x. plans_on manner ss x)) ≡ Ok qs → ((rs : List Plan) → plans_on manner ss rs ≡ Ok qs → Steps_by manner ss 0 rs qs) → Steps_by manner (s ∷ ss) 0 ps qs
  first_step s ss ps qs (Ok rs) e f rest = step_on manner s ss 0 ps rs qs (all_step manner s ps rs e) (rest rs f)
  first_step s ss ps qs (Err x) e f rest = cc

  pub together : (ss : List Step) (ps qs : List Plan) → plans_on manner ss ps ≡ Ok qs → Steps_by manner ss 0 ps qs
  unfolding plans_on
  together [] ps qs e = subst (Steps_by manner [] 0 ps) (same_ok (Ok ps) ps qs refl e) (no_step 0 ps)
  together (s ∷ ss) ps qs e = first_step s ss ps qs (planned_all manner s [] ps) refl e (λ rs f. together ss rs qs f)

  -- what one of the lines has
  one_of : (ss : List Step) (line : ℕ) (ps qs : List Plan) (j : ℕ) (q d : Plan) → Steps_by manner ss line ps qs → slice_get qs j ≡ Some q → plan_on manner (line + j) ss (get_or ps j d) ≡ Ok q
  unfolding Steps_by
  one_of ss line [] qs j q d a e =
      let none : slice_get [] j ≡ Some q = subst (λ x. slice_get x j ≡ Some q) a e in cc
  one_of ss line (p ∷ ps) [] j q d a e = absurd a
  one_of ss line (p ∷ ps) (r ∷ qs) zero q d a e =
      let same : r ≡ q = cc in
      let at : line ≡ line + 0 = omega arith in
      subst (λ n. plan_on manner n ss p ≡ Ok q) at (a.0 ∙ ap Ok same)
  one_of ss line (p ∷ ps) (r ∷ qs) (suc j) q d a e =
      let at : (line + 1) + j ≡ line + suc j = omega arith in
      subst (λ n. plan_on manner n ss (get_or ps j d) ≡ Ok q) at (one_of ss (line + 1) ps qs j q d a.1 e)

unplanned_at : (n j : ℕ) → get_or (replicate n unplanned) j unplanned ≡ unplanned
unplanned_at n j =
    let within : j < n → get_or (replicate n unplanned) j unplanned ≡ unplanned = λ inside. get_or-replicate n j unplanned unplanned inside in
    let beyond : n ≤ j → get_or (replicate n unplanned) j unplanned ≡ unplanned = λ over. get_or_past (replicate n unplanned) j unplanned (subst (λ k. k ≤ j) (sym (length-replicate n unplanned)) over) in
    ⊎_elim within beyond (cases_lt j n)

-- of so many lines each has what it has by itself
pub line_planned : (manner : Manner) (ss : List Step) (lines : ℕ) (plans : List Plan) (line : ℕ) (p : Plan) → plans_of manner ss lines ≡ Ok plans → slice_get plans line ≡ Some p → plan_on manner line ss unplanned ≡ Ok p
line_planned manner ss lines plans line p e at =
    let one = one_of manner ss 0 (replicate lines unplanned) plans line p unplanned (together manner ss (replicate lines unplanned) plans e) at in
    let same : 0 + line ≡ line = omega arith in
    subst (λ n. plan_on manner n ss unplanned ≡ Ok p) same (subst (λ x. plan_on manner (0 + line) ss x ≡ Ok p) (unplanned_at lines line) one)
