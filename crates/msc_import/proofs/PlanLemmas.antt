-- Plans of lines: one end more, one line's step more, and one step of all lines more.
use Rattle.std.proofs.Common.{◌≡◌, ◌<◌, ◌≤◌, ℕ, ◌+◌, List, [], ◌∷◌, ◌++◌, length, get_or, set, take, drop, Ok, refl, sym, ap, ◌∙◌, subst, arith}
use Rattle.std.proofs.lemmas.List.{drop_more, drop_all, drop-set-lt, length-take-le, take_all, take_more_set}
use Rattle.msc_scenarios.specs.declared.steps.Message.{Message}
use Rattle.msc_scenarios.specs.declared.steps.Step.{Step}
use Rattle.msc_mermaid.specs.declared.fault.ImportFault.{ImportFault}
use Rattle.msc_import.specs.declared.plan.Manner.{Manner}
use Rattle.msc_import.specs.declared.plan.Side.{Side}
use Rattle.msc_import.specs.Plans.{Plan, with_event, with_sides, planned, planned_all, plans_on}
use Rattle.msc_mermaid.specs.Gives.{◌>>=◌, Fails}
use Rattle.msc_mermaid.proofs.ReadingLemmas.{bind_fails}

sides_cons : (m : Message) (s : Side) (ss : List Side) (p : Plan) → with_sides m (s ∷ ss) p ≡ with_sides m ss (with_event p (record { message = m; side = s }))
unfolding with_sides
sides_cons m s ss p = refl

sides_none : (m : Message) (p : Plan) → with_sides m [] p ≡ p
unfolding with_sides
sides_none m p = refl

module _ (m : Message) (ss : List Side) (i : ℕ) (p : Plan) where
  pub sides_more : (d : Side) → i < length ss → with_sides m (drop i ss) p ≡ with_sides m (drop (i + 1) ss) (with_event p (record { message = m; side = get_or ss i d }))
  sides_more d inside = ap (λ x. with_sides m x p) (drop_more ss i d inside) ∙ sides_cons m (get_or ss i d) (drop (i + 1) ss) p

  pub sides_end : length ss ≤ i → with_sides m (drop i ss) p ≡ p
  sides_end over = ap (λ x. with_sides m x p) (drop_all i ss over) ∙ sides_none m p

all_cons : (manner : Manner) (s : Step) (done : List Plan) (p : Plan) (ps : List Plan) → planned_all manner s done (p ∷ ps) ≡ (planned manner (length done) s p >>= (λ q. planned_all manner s (done ++ q ∷ []) ps))
unfolding planned_all
all_cons manner s done p ps = refl

all_none : (manner : Manner) (s : Step) (done : List Plan) → planned_all manner s done [] ≡ Ok done
unfolding planned_all
all_none manner s done = refl

-- one line more takes a step
module _ (manner : Manner) (s : Step) (ps : List Plan) (i : ℕ) where
  module _ (d : Plan) (inside : i < length ps) where
    all_next : planned_all manner s (take i ps) (drop i ps) ≡ (planned manner i s (get_or ps i d) >>= (λ q. planned_all manner s (take i ps ++ q ∷ []) (drop (i + 1) ps)))
    all_next =
        ap (planned_all manner s (take i ps)) (drop_more ps i d inside) ∙ all_cons manner s (take i ps) (get_or ps i d) (drop (i + 1) ps)
        ∙ ap (λ n. planned manner n s (get_or ps i d) >>= (λ q. planned_all manner s (take i ps ++ q ∷ []) (drop (i + 1) ps))) (length-take-le i ps (omega (arith, inside)))

    pub all_more : (q : Plan) → planned manner i s (get_or ps i d) ≡ Ok q → planned_all manner s (take i ps) (drop i ps) ≡ planned_all manner s (take (i + 1) (set ps i q)) (drop (i + 1) (set ps i q))
    all_more q e =
        all_next ∙ ap (λ x. x >>= (λ r. planned_all manner s (take i ps ++ r ∷ []) (drop (i + 1) ps))) e
        ∙ ap (λ x. planned_all manner s x (drop (i + 1) ps)) (sym (take_more_set ps i q inside))
        ∙ ap (planned_all manner s (take (i + 1) (set ps i q))) (sym (drop-set-lt (i + 1) ps i q (omega arith)))

    pub all_fails : (e : ImportFault) → Fails e (planned manner i s (get_or ps i d)) → Fails e (planned_all manner s (take i ps) (drop i ps))
    all_fails e h = subst (Fails e) (sym all_next) (bind_fails e _ _ h)

  pub all_end : length ps ≤ i → planned_all manner s (take i ps) (drop i ps) ≡ Ok ps
  all_end over =
      ap (λ x. planned_all manner s x (drop i ps)) (take_all i ps over) ∙ ap (planned_all manner s ps) (drop_all i ps over) ∙ all_none manner s ps

plans_cons : (manner : Manner) (s : Step) (ss : List Step) (ps : List Plan) → plans_on manner (s ∷ ss) ps ≡ (planned_all manner s [] ps >>= (λ qs. plans_on manner ss qs))
unfolding plans_on
plans_cons manner s ss ps = refl

plans_none : (manner : Manner) (ps : List Plan) → plans_on manner [] ps ≡ Ok ps
unfolding plans_on
plans_none manner ps = refl

-- all lines take one step more
module _ (manner : Manner) (ss : List Step) (i : ℕ) (ps : List Plan) where
  module _ (d : Step) (inside : i < length ss) where
    plans_next : plans_on manner (drop i ss) ps ≡ (planned_all manner (get_or ss i d) [] ps >>= (λ qs. plans_on manner (drop (i + 1) ss) qs))
    plans_next = ap (λ x. plans_on manner x ps) (drop_more ss i d inside) ∙ plans_cons manner (get_or ss i d) (drop (i + 1) ss) ps

    pub plans_more : (qs : List Plan) → planned_all manner (get_or ss i d) [] ps ≡ Ok qs → plans_on manner (drop i ss) ps ≡ plans_on manner (drop (i + 1) ss) qs
    plans_more qs e = plans_next ∙ ap (λ x. x >>= (λ n. plans_on manner (drop (i + 1) ss) n)) e

    pub plans_fail : (e : ImportFault) → Fails e (planned_all manner (get_or ss i d) [] ps) → Fails e (plans_on manner (drop i ss) ps)
    plans_fail e h = subst (Fails e) (sym plans_next) (bind_fails e _ _ h)

  pub plans_end : length ss ≤ i → plans_on manner (drop i ss) ps ≡ Ok ps
  plans_end over = ap (λ x. plans_on manner x ps) (drop_all i ss over) ∙ plans_none manner ps
