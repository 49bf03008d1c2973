-- Arrows in no block are met, in the order of the text.
use Rattle.std.proofs.Common.{◌≡◌, inl, inr, ℕ, zero, suc, ◌+◌, Bool, true, false, List, [], ◌∷◌, ◌++◌, refl, sym, ap, ◌∙◌, subst, append_assoc}
use Rattle.std.proofs.lemmas.Bool.{false≢true}
use Rattle.msc_mermaid.specs.declared.TheConstants.{DEPTH_LIMIT}
use Rattle.msc_mermaid.specs.declared.statement.Arrow.{Arrow}
use Rattle.msc_mermaid.specs.declared.statement.Diagram.{Diagram}
use Rattle.msc_mermaid.specs.declared.statement.Placed.{Placed}
use Rattle.msc_mermaid.specs.declared.statement.Statement.{Statement}
use Rattle.msc_mermaid.specs.declared.statement.Statement.TheVariants.{Declares, Says, Begins, Closes}
use Rattle.msc_scenarios.specs.declared.steps.Step.{Step}
use Rattle.msc_scenarios.specs.declared.steps.Step.TheVariants as steps
use Rattle.msc_scenarios.specs.Steps.{is_loss, message_of, owned_by}
use Rattle.msc_scenarios.specs.Histories.{Branch, History, One, Row, Said, Through}
use Rattle.msc_scenarios.specs.Outside.{AreMet, outer, with_arrow}

module _ (lines : List (List ℕ)) where
  -- more steps before them
  met_more : (ps : List Placed) (xs ys : List Step) → AreMet lines ps ys → AreMet lines ps (xs ++ ys)
  unfolding AreMet
  met_more [] xs ys m = tt
  met_more (p ∷ ps) xs ys m =
      let step = steps.Meets (message_of lines p m.0 m.1 []) in
      (m.0, m.1, xs ++ m.2, m.3, m.4, ap (λ l. xs ++ l) m.5 ∙ sym (append_assoc xs m.2 (step ∷ m.3)), m.6)

  -- an arrow is one step
  said_meets : (p : Placed) (a : Arrow) (h : History) (cut : Bool) → Said lines p a [] h cut → (lost : Bool) × (h.steps ≡ steps.Meets (message_of lines p a lost []) ∷ [])
  said_meets p a h cut (inl (e, inl m)) = (true, ap (λ (x : History). x.steps) m.3 ∙ ap (λ (x : History). x.steps) m.2.0)
  said_meets p a h cut (inl (e, inr m)) = (false, ap (λ (x : History). x.steps) m.3 ∙ ap (λ (x : History). x.steps) m.2.0)
  said_meets p a h cut (inr (e, m)) = (is_loss a.fate, ap (λ (x : History). x.steps) m.0)

  module _ (inner : Branch) (rounds : List ℕ) where
    one_met : (p : Placed) (s : Statement) (ps qs : List Placed) (x : History) (ys : List Step) → p.statement ≡ s → One lines inner rounds p s ps [] x false → AreMet lines qs ys → AreMet lines (with_arrow p s qs) (x.steps ++ ys)
    unfolding AreMet
    one_met p (Says a) ps qs x ys e o m = let said = said_meets p a x false o in (a, said.0, [], ys, e, ap (λ l. l ++ ys) said.1, m)
    one_met p (Begins kind) ps qs x ys e o m = met_more qs x.steps ys m
    one_met p (Declares ident shown) ps qs x ys e o m = met_more qs x.steps ys m
    one_met p (Closes closer) ps qs x ys e o m = met_more qs x.steps ys m

    row_met : (n : ℕ) (ps : List Placed) (h : History) → Row lines inner rounds n ps [] h false → AreMet lines (outer n ps) h.steps
    unfolding Row outer AreMet
    row_met n [] h r = tt
    row_met (suc n) (p ∷ ps) h r = row_met n ps h r
    row_met zero (p ∷ ps) h (inl t) = absurd (false≢true t.1)
    row_met zero (p ∷ ps) h (inr t) =
        let rest = row_met (owned_by p.statement ps) ps t.1 t.4 in
        let met = one_met p p.statement ps (outer (owned_by p.statement ps) ps) t.0 t.1.steps refl t.3 rest in
        subst (AreMet lines (with_arrow p p.statement (outer (owned_by p.statement ps) ps))) (sym (ap (λ (x : History). x.steps) t.2)) met

  through_met : (rounds : List ℕ) (d : ℕ) (ps : List Placed) (h : History) → Through lines rounds (suc d) [] ps h false → AreMet lines (outer 0 ps) h.steps
  unfolding Through
  through_met rounds d ps h t = row_met (Through lines rounds d) rounds 0 ps h t

pub outside_met : (rounds : List ℕ) (d : Diagram) (h : History) → Through d.lines rounds (DEPTH_LIMIT + 1) [] d.statements h false → AreMet d.lines (outer 0 d.statements) h.steps
outside_met rounds d h t = through_met d.lines rounds DEPTH_LIMIT d.statements h t
