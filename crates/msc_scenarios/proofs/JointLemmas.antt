-- The statement that begins a further branch of a block, one statement more.
use Rattle.std.proofs.Common.{◌≡◌, ◌<◌, ◌≤◌, ℕ, ◌+◌, Bool, true, false, cond, List, [], ◌∷◌, length, get_or, drop, None, Some, refl, sym, ap, ◌∙◌}
use Rattle.std.proofs.lemmas.List.{drop_more, drop_all}
use Rattle.msc_mermaid.specs.declared.statement.Placed.{Placed}
use Rattle.msc_scenarios.specs.Steps.{deeper, ends_at, is_sought, joint, left_after}

joint_cons : (d n : ℕ) (p : Placed) (ps : List Placed)
    → joint d n (p ∷ ps) ≡ cond (ends_at d p.statement) None (cond (is_sought d n p.statement) (Some p) (joint (deeper d p.statement) (left_after d n p.statement) ps))
unfolding joint
joint_cons d n p ps = refl

joint_none : (d n : ℕ) → joint d n [] ≡ None
unfolding joint
joint_none d n = refl

module _ (d n : ℕ) (ps : List Placed) (i : ℕ) where
  module _ (p : Placed) (is : p ≡ get_or ps i p) (inside : i < length ps) where
    -- what the next statement decides
    next : (ends sought : Bool) → ends_at d p.statement ≡ ends → is_sought d n p.statement ≡ sought
        → joint d n (drop i ps) ≡ cond ends None (cond sought (Some p) (joint (deeper d p.statement) (left_after d n p.statement) (drop (i + 1) ps)))
    next ends sought e s =
        let rest = drop (i + 1) ps in
        let others = joint (deeper d p.statement) (left_after d n p.statement) rest in
        ap (joint d n) (drop_more ps i p inside ∙ ap (λ (x : Placed). x ∷ rest) (sym is)) ∙ joint_cons d n p rest
        ∙ ap (λ (t : Bool). cond t None (cond (is_sought d n p.statement) (Some p) others)) e
        ∙ ap (λ (t : Bool). cond ends None (cond t (Some p) others)) s

    -- the block ends here, this is the statement, or it comes later
    pub joint_ends : ends_at d p.statement ≡ true → joint d n (drop i ps) ≡ None
    joint_ends e = next true (is_sought d n p.statement) e refl

    pub joint_here : ends_at d p.statement ≡ false → is_sought d n p.statement ≡ true → joint d n (drop i ps) ≡ Some p
    joint_here e s = next false true e s

    pub joint_later : ends_at d p.statement ≡ false → is_sought d n p.statement ≡ false
        → joint d n (drop i ps) ≡ joint (deeper d p.statement) (left_after d n p.statement) (drop (i + 1) ps)
    joint_later e s = next false false e s

  pub joint_end : length ps ≤ i → joint d n (drop i ps) ≡ None
  joint_end over = ap (joint d n) (drop_all i ps over) ∙ joint_none d n
