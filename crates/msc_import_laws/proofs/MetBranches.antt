-- The branches of a block: no arrow is met in two.
use Rattle.std.proofs.Common.{◌≡◌, ℕ, zero, suc, ◌+◌, false, cond, ◌==◌, arith, List, [], ◌∷◌, ◌++◌, refl, ◌∙◌}
use Rattle.std.specs.List.{AllByRecursion}
use Rattle.std.proofs.lemmas.Bool.{ne_eqb}
use Rattle.msc_chart.specs.Lists.{Occurs}
use Rattle.msc_scenarios.specs.declared.steps.Message.{Message}
use Rattle.msc_scenarios.specs.declared.steps.Step.TheVariants as steps
use Rattle.msc_mermaid.specs.declared.statement.Placed.{Placed}
use Rattle.msc_scenarios.specs.Steps.{Walk, Walker, branch_at, put, side_by_side, then, unbroken}
use Rattle.msc_import_laws.specs.Outlined.{AreDistinct}
use Rattle.msc_import_laws.proofs.Distinct.{branches_differ, distinct_branch, in_branch, joined_differ, joined_first, joined_second, together}
use Rattle.msc_import_laws.proofs.Growth.{Grows, grows_after, grows_put, grows_same, grows_then, grows_wider}
use Rattle.msc_import_laws.proofs.Numbers.{IsRound}
use Rattle.msc_import_laws.proofs.MetArrows.{AreLow, IsMet, Meets, apart_met, low_in, met_wider}
use Rattle.msc_import_laws.proofs.Stands.{first_joined, second_joined}

module _ (lines : List (List ℕ)) where
  -- the branches of a block
  module _ (d : ℕ) (inner : Walker) (good : Meets lines d inner) (rounds : List ℕ) (short : AllByRecursion IsRound rounds) where
    -- all of them
    pub sides_grow : (bs : List (List Placed)) (w : Walk) → AreDistinct (together bs) → AreLow (together bs) → w.lines ≡ lines → Grows (IsMet lines d (together bs) rounds) w (side_by_side inner bs rounds w)
    unfolding side_by_side Meets
    sides_grow [] w distinct low same = grows_same (IsMet lines d [] rounds) w
    sides_grow (b ∷ bs) w distinct low same =
        let in_first : (p : Placed) → Occurs b p → Occurs (b ++ together bs) p = first_joined b (together bs) in
        let in_rest : (p : Placed) → Occurs (together bs) p → Occurs (b ++ together bs) p = second_joined b (together bs) in
        let none : (m : Message) → ⊥ → IsMet lines d b rounds m = λ m f. absurd f in
        let v : Walk = inner b rounds w in
        let one = good b rounds w (joined_first b (together bs) distinct) (low_in (b ++ together bs) b in_first low) short same in
        let healed = grows_after (IsMet lines d b rounds) w v (unbroken v) one refl refl refl in
        let next = grows_then (IsMet lines d b rounds) (λ m. ⊥) (IsMet lines d b rounds) w (unbroken v) (put steps.Next) healed (grows_put (λ m. ⊥) steps.Next (unbroken v) refl) (λ m n h k e. k) (λ m h. h) none in
        let u : Walk = then (unbroken v) (put steps.Next) in
        let rest = sides_grow bs u (joined_second b (together bs) distinct) (low_in (b ++ together bs) (together bs) in_rest low) (next.lines ∙ same) in
        grows_then (IsMet lines d b rounds) (IsMet lines d (together bs) rounds) (IsMet lines d (b ++ together bs) rounds) w u (side_by_side inner bs rounds) next rest
        (apart_met lines d d b (together bs) rounds rounds short short (λ p q o r. joined_differ b (together bs) p q distinct o r))
        (met_wider lines d d b (b ++ together bs) rounds (omega arith) in_first)
        (met_wider lines d d (together bs) (b ++ together bs) rounds (omega arith) in_rest)

    module _ (bs : List (List Placed)) (distinct : AreDistinct (together bs)) (low : AreLow (together bs)) where
      -- one of them
      branch_grows : (i : ℕ) (w : Walk) → w.lines ≡ lines → Grows (IsMet lines d (branch_at bs i) rounds) w (inner (branch_at bs i) rounds w)
      unfolding Meets
      branch_grows i w same = good (branch_at bs i) rounds w (distinct_branch bs i distinct) (low_in (together bs) (branch_at bs i) (in_branch bs i) low) short same

      wider : (i : ℕ) (m : Message) → IsMet lines d (branch_at bs i) rounds m → IsMet lines (d + 1) (together bs) rounds m
      wider i = met_wider lines d (d + 1) (branch_at bs i) (together bs) rounds (omega arith) (in_branch bs i)

      pub one_grows : (i : ℕ) (w v : Walk) → w.lines ≡ lines → v.steps ≡ (inner (branch_at bs i) rounds w).steps → v.lines ≡ (inner (branch_at bs i) rounds w).lines → v.arrows ≡ (inner (branch_at bs i) rounds w).arrows
          → Grows (IsMet lines (d + 1) (together bs) rounds) w v
      one_grows i w v same a b c = grows_after (IsMet lines (d + 1) (together bs) rounds) w (inner (branch_at bs i) rounds w) v (grows_wider (IsMet lines d (branch_at bs i) rounds) (IsMet lines (d + 1) (together bs) rounds) w (inner (branch_at bs i) rounds w) (wider i) (branch_grows i w same)) a b c

      -- the first one, and then one of the others, or none
      pub options_grow : (c : ℕ) (w : Walk) → w.lines ≡ lines → Grows (IsMet lines (d + 1) (together bs) rounds) w (then (inner (branch_at bs 0) rounds w) (λ v. cond (c == 0) v (inner (branch_at bs c) rounds v)))
      options_grow zero w same =
          grows_then (IsMet lines d (branch_at bs 0) rounds) (λ m. ⊥) (IsMet lines (d + 1) (together bs) rounds) w (inner (branch_at bs 0) rounds w) (λ v. v) (branch_grows 0 w same) (grows_same (λ m. ⊥) (inner (branch_at bs 0) rounds w)) (λ m n h k e. k) (wider 0) (λ m f. absurd f)
      options_grow (suc c) w same =
          let v : Walk = inner (branch_at bs 0) rounds w in
          let first = branch_grows 0 w same in
          let some : (suc c == 0) ≡ false = ne_eqb (suc c) 0 (λ e. omega (arith, e)) in
          rw some (grows_then (IsMet lines d (branch_at bs 0) rounds) (IsMet lines d (branch_at bs (suc c)) rounds) (IsMet lines (d + 1) (together bs) rounds) w v (λ v. inner (branch_at bs (suc c)) rounds v) first (branch_grows (suc c) v (first.lines ∙ same))
          (apart_met lines d d (branch_at bs 0) (branch_at bs (suc c)) rounds rounds short short (λ p q o r. branches_differ bs c p q distinct o r)) (wider 0) (wider (suc c)))
