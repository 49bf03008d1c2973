-- Each history of a diagram has segments on each line.
use Rattle.std.proofs.Common.{◌≡◌, ◌⊎◌, ℕ, zero, suc, ◌+◌, Bool, true, false, cond, nat_lt, List, [], ◌∷◌, ◌++◌, inl, inr, length, take, sym, ap, ◌∙◌, subst, append_assoc}
use Rattle.std.proofs.lemmas.Bool.{false≢true}
use Rattle.msc_place.specs.declared.position.Position.{Position}
use Rattle.msc_mermaid.specs.declared.TheConstants.{DEPTH_LIMIT}
use Rattle.msc_mermaid.specs.declared.row.Kind.{Kind}
use Rattle.msc_mermaid.specs.declared.row.Kind.TheVariants as kinds
use Rattle.msc_mermaid.specs.declared.statement.Arrow.{Arrow}
use Rattle.msc_mermaid.specs.declared.statement.Diagram.{Diagram}
use Rattle.msc_mermaid.specs.declared.statement.Placed.{Placed}
use Rattle.msc_mermaid.specs.declared.statement.Statement.{Statement}
use Rattle.msc_mermaid.specs.declared.statement.Statement.TheVariants.{Declares, Says, Begins, Closes}
use Rattle.msc_scenarios.specs.declared.steps.Message.{Message}
use Rattle.msc_scenarios.specs.declared.steps.Step.{Step}
use Rattle.msc_scenarios.specs.declared.steps.Step.TheVariants as steps
use Rattle.msc_scenarios.specs.Steps.{branch_at, branches_in, extent, passage_of, is_loss, message_of, owned_by, start_of}
use Rattle.msc_scenarios.specs.Histories.{Block, Branch, Formed, Histories, History, IsHistory, Made, One, OneOf, Only, Rounds, Row, Said, Sides, Then, Through, joined, met, only, under}
use Rattle.msc_import.specs.declared.plan.Own.{Own}
use Rattle.msc_import.specs.Segments.{AreBranches, HasSegments, IsSegmented, Segments}
use Rattle.msc_import.specs.Segments.AreBranches.{branch, none}
use Rattle.msc_import.specs.Segments.IsSegmented.{arrow, nothing, par}

module _ (own : Own) (line : ℕ) where
  -- steps in two parts
  seg_append : {xs : List Step} {gs : Segments} (ys : List Step) → IsSegmented own line xs gs → HasSegments own line ys → HasSegments own line (xs ++ ys)
  seg_append ys nothing k = k
  seg_append ys (arrow m ss gs d) k = let r = seg_append ys d k in (_, arrow m (ss ++ ys) r.0 r.1)
  seg_append ys (par place inside bs ss gs b d) k =
      let r = seg_append ys d k in
      let is : steps.Opens place ∷ (inside ++ steps.Closes ∷ (ss ++ ys)) ≡ (steps.Opens place ∷ (inside ++ steps.Closes ∷ ss)) ++ ys = ap (λ l. steps.Opens place ∷ l) (sym (append_assoc inside (steps.Closes ∷ ss) ys)) in
      subst (HasSegments own line) is (_, par place inside bs (ss ++ ys) r.0 b r.1)

  -- all of these histories have segments
  record Have (P : Histories) : Type 0 where
    has : (h : History) (cut : Bool) → P h cut → HasSegments own line h.steps

  abbrev of : History → Type 0
  of h = HasSegments own line h.steps

  have_nothing : Have (Only (only []))
  have_nothing = record { has = λ h cut p. subst of (sym p.0) ([], nothing) }

  have_arrow : (m : Message) → Have (Only (only (steps.Meets m ∷ [])))
  have_arrow m = record { has = λ h cut p. subst of (sym p.0) (_, arrow m [] [] nothing) }

  have_then : (P Q : Histories) → Have P → Have Q → Have (Then P Q)
  have_then P Q p q = record { has = by }
    where
      by : (h : History) (cut : Bool) → Then P Q h cut → of h
      by h cut (inl t) = p.has h true t.0
      by h cut (inr t) = subst of (sym t.2) (seg_append t.1.steps (p.has t.0 false t.3).1 (q.has t.1 cut t.4))

  have_under : (c : ℕ) (ends : Bool) (P : Histories) → Have P → Have (Made (under c) ends P)
  have_under c ends P p = record { has = λ h cut m. subst of (sym m.3) (p.has m.0 m.1 m.2) }

  module _ (inner : Branch) (each : (rs : List ℕ) (b : List Placed) → Have (inner rs b)) (rs : List ℕ) where
    have_rounds : (body : List Placed) (n k : ℕ) → Have (Rounds inner body rs k n)
    unfolding Rounds
    have_rounds body zero k = have_nothing
    have_rounds body (suc n) k = have_then (inner (rs ++ (k + 1) ∷ []) body) (Rounds inner body rs (k + 1) n) (each (rs ++ (k + 1) ∷ []) body) (have_rounds body n (k + 1))

    -- parallel branches
    abbrev Parted : List Step → Type 0
    Parted ss = (bs : List Segments) × AreBranches own line ss bs

    sides_parted : (bs : List (List Placed)) (h : History) (cut : Bool) → Sides inner rs bs h cut → Parted h.steps
    unfolding Sides
    sides_parted [] h cut s = subst (λ (x : History). Parted x.steps) (sym s.0) ([], none)
    sides_parted (b ∷ bs) h cut (inl s) = absurd (false≢true (sym s.0.4))
    sides_parted (b ∷ bs) h cut (inr s) =
        let m = s.3 in
        let first = (each rs b).has m.0 m.1 m.2 in
        let rest = sides_parted bs s.1 cut s.4 in
        let is : h.steps ≡ m.0.steps ++ steps.Next ∷ s.1.steps = ap (λ (x : History). x.steps) (s.2 ∙ ap (λ (x : History). joined x s.1) m.3) ∙ append_assoc m.0.steps (steps.Next ∷ []) s.1.steps in
        subst Parted (sym is) (_, branch m.0.steps first.0 s.1.steps rest.0 first.1 rest.1)

    have_one_of : (bs : List (List Placed)) (first : Histories) (start more : ℕ) → Have first → Have (OneOf inner bs rs first start more)
    have_one_of bs first start more f = record {
      has = λ h cut m.
          (have_under (m.0 + more) false (Then first (inner rs (branch_at bs m.0))) (have_then first (inner rs (branch_at bs m.0)) f (each rs (branch_at bs m.0)))).has h cut m.3;
    }

    have_either : (P Q : Histories) → Have P → Have Q → (h : History) (cut : Bool) → P h cut ⊎ Q h cut → of h
    have_either P Q p q h cut (inl x) = p.has h cut x
    have_either P Q p q h cut (inr x) = q.has h cut x

    -- a block of any form
    module _ (rounds : List ℕ) (place : Position) (bs : List (List Placed)) (h : History) (cut : Bool) where
      formed_one : Formed inner rounds place (passage_of kinds.Alt 2) bs rs h cut → of h
      unfolding Formed
      formed_one p = (have_one_of bs (Only (only [])) 0 0 have_nothing).has h cut p

      formed_maybe : Formed inner rounds place (passage_of kinds.Opt 0) bs rs h cut → of h
      unfolding Formed
      formed_maybe p =
          have_either (Made (under 0) false (Only (only []))) (OneOf inner bs rs (Only (only [])) 0 1) (have_under 0 false (Only (only [])) have_nothing) (have_one_of bs (Only (only [])) 0 1 have_nothing) h cut p

      formed_rounds : Formed inner rounds place (passage_of kinds.Loop 0) bs rs h cut → of h
      unfolding Formed
      formed_rounds p = (have_under p.0 false (Rounds inner (branch_at bs 0) rs 0 p.0) (have_rounds (branch_at bs 0) p.0 0)).has h cut p.2

      formed_break : Formed inner rounds place (passage_of kinds.Break 0) bs rs h cut → of h
      unfolding Formed
      formed_break p =
          let b = inner rs (branch_at bs 0) in
          have_either (Made (under 0) false (Only (only []))) (Made (under 1) true b) (have_under 0 false (Only (only [])) have_nothing) (have_under 1 true b (each rs (branch_at bs 0))) h cut p

      formed_first : Formed inner rounds place (passage_of kinds.Critical 2) bs rs h cut → of h
      unfolding Formed
      formed_first p =
          let b = inner rs (branch_at bs 0) in
          have_either (Made (under 0) false b) (OneOf inner bs rs b 1 0) (have_under 0 false b (each rs (branch_at bs 0))) (have_one_of bs b 1 0 (each rs (branch_at bs 0))) h cut p

      formed_par : Formed inner rounds place (passage_of kinds.Par 0) bs rs h cut → of h
      unfolding Formed
      formed_par p =
          let inside = sides_parted bs p.0 cut p.2 in
          subst of (sym p.1) (_, par place p.0.steps inside.0 [] [] inside.1 nothing)

      formed_plain : Formed inner rounds place (passage_of kinds.Plain 0) bs rs h cut → of h
      unfolding Formed
      formed_plain p = (each rs (branch_at bs 0)).has h cut p

      formed_by : (kind : Kind) (n : ℕ) → Formed inner rounds place (passage_of kind n) bs rs h cut → of h
      formed_by kinds.Alt n =
          elim (nat_lt 1 n) as (λ t. Formed inner rounds place (cond t (passage_of kinds.Alt 2) (passage_of kinds.Opt 0)) bs rs h cut → of h) [ true ↦ formed_one | false ↦ formed_maybe ]
      formed_by kinds.Opt n = formed_maybe
      formed_by kinds.Loop n = formed_rounds
      formed_by kinds.Break n = formed_break
      formed_by kinds.Critical n =
          elim (nat_lt 1 n) as (λ t. Formed inner rounds place (cond t (passage_of kinds.Critical 2) (passage_of kinds.Plain 0)) bs rs h cut → of h) [ true ↦ formed_first | false ↦ formed_plain ]
      formed_by kinds.Par n = formed_par
      formed_by kinds.Plain n = formed_plain

    module _ (lines : List (List ℕ)) (rounds : List ℕ) where
      have_block : (place : Position) (kind : Kind) (inside : List Placed) (h : History) (cut : Bool) → Block inner rounds place kind inside rs h cut → of h
      have_block place kind inside h cut (inl p) = formed_by rounds place (branches_in 0 inside) h cut kind (length (branches_in 0 inside)) p.1
      have_block place kind inside h cut (inr p) = have_nothing.has h cut p.1

      have_said : (p : Placed) (a : Arrow) (h : History) (cut : Bool) → Said lines p a rs h cut → of h
      have_said p a h cut (inl q) =
          let lost = message_of lines p a true rs in let arrives = message_of lines p a false rs in
          have_either (Made (under 0) false (Only (met lines p a true rs))) (Made (under 1) false (Only (met lines p a false rs))) (have_under 0 false (Only (met lines p a true rs)) (have_arrow lost)) (have_under 1 false (Only (met lines p a false rs)) (have_arrow arrives)) h cut q.1
      have_said p a h cut (inr q) = (have_arrow (message_of lines p a (is_loss a.fate) rs)).has h cut q.1

      have_one : (p : Placed) (s : Statement) (ps : List Placed) → Have (One lines inner rounds p s ps rs)
      have_one p (Begins kind) ps = record { has = have_block (start_of p) kind (take (extent 0 ps) ps) }
      have_one p (Says a) ps = record { has = have_said p a }
      have_one p (Declares ident shown) ps = have_nothing
      have_one p (Closes closer) ps = have_nothing

      have_row : (n : ℕ) (ps : List Placed) → Have (Row lines inner rounds n ps rs)
      unfolding Row
      have_row n [] = have_nothing
      have_row (suc n) (p ∷ ps) = have_row n ps
      have_row zero (p ∷ ps) =
          have_then (One lines inner rounds p p.statement ps rs) (Row lines inner rounds (owned_by p.statement ps) ps rs) (have_one p p.statement ps) (have_row (owned_by p.statement ps) ps)

  have_through : (lines : List (List ℕ)) (rounds : List ℕ) (d : ℕ) (rs : List ℕ) (ps : List Placed) → Have (Through lines rounds d rs ps)
  unfolding Through
  have_through lines rounds zero rs ps = have_nothing
  have_through lines rounds (suc d) rs ps = have_row (Through lines rounds d) (have_through lines rounds d) rs lines rounds 0 ps

  pub history_segments : (rounds : List ℕ) (d : Diagram) (h : History) → IsHistory rounds d h → HasSegments own line h.steps
  history_segments rounds d h is = (have_through d.lines rounds (DEPTH_LIMIT + 1) [] d.statements).has h is.0 is.1
