-- A walk that is given the choices of a path by one of some branches takes them.
use Rattle.std.proofs.Common.{◌≡◌, ◌<◌, ◌≤◌, ℕ, ◌+◌, true, false, nat_le, unwrap_or, List, [], ◌∷◌, length, get_or, drop, sym, ap, ◌∙◌, subst, arith}
use Rattle.std.proofs.lemmas.List.{drop_more, length-drop}
use Rattle.std.proofs.lemmas.Option.{slice_get-get_or}
use Rattle.msc_scenarios.specs.declared.path.Path.{Path}
use Rattle.msc_scenarios.specs.declared.steps.Ending.TheVariants as ends
use Rattle.msc_place.specs.declared.position.Position.{Position}
use Rattle.msc_mermaid.specs.declared.statement.Placed.{Placed}
use Rattle.msc_scenarios.specs.Choosing.{Chooser, behind, by_branches, chosen}
use Rattle.msc_scenarios.specs.Steps.{Walk, Walker, branch_at, then, unbroken}
use Rattle.msc_scenarios.proofs.ChoiceLemmas as choices
use Rattle.msc_scenarios.proofs.FollowLemmas.{Follows}
use Rattle.msc_scenarios.proofs.FollowListLemmas.{AllFollow, follow_behind, follow_choice, taking}
use Rattle.msc_place.proofs.Walks.{AllByRecursion-append as all_append}

-- the branch at a place, where these are left from there on
module _ (all : List (List Placed)) (k : ℕ) (b : List Placed) (rest : List (List Placed)) (left : drop k all ≡ b ∷ rest) where
  pub inside : k < length all
  inside = omega (arith, length-drop k all, ap length left)

  parts : get_or all k [] ∷ drop (k + 1) all ≡ b ∷ rest
  parts = sym (drop_more all k [] inside) ∙ left

  pub here : branch_at all k ≡ b
  here = ap (λ x. unwrap_or x []) (slice_get-get_or all k [] inside) ∙ ap (λ x. get_or x 0 []) parts

  pub behind_it : drop (k + 1) all ≡ rest
  behind_it = ap (drop 1) parts

module _ (inner : Chooser) (walker : Walker) (same : (b : List Placed) (rs : List ℕ) → AllFollow (walker b rs) (inner b)) (rs : List ℕ) where
  -- The paths by each of the branches. From start on, the choice of the branch at a place is that
  -- place and so many more, and what follows is to take the first paths and then that branch.
  module _ (line : Position) (most main : ℕ) (h : ℕ → Walk → Walk) (f : Walk → Walk) (first : List Path) (firsts : AllFollow f first) (all : List (List Placed)) (start more : ℕ) (small : (i : ℕ) → i < length all → nat_le (i + more) most ≡ true) (is : (i : ℕ) → start ≤ i → (w : Walk) → w.ending ≡ ends.Goes → h (i + more) w ≡ unbroken (then (f w) (walker (branch_at all i) rs))) where
    follow_branch : (k : ℕ) → start ≤ k → k < length all → AllFollow (taking line most main h) (chosen (k + more) false (behind first (inner (branch_at all k))))
    follow_branch k from within =
        let b = branch_at all k in
        follow_choice line most main h (k + more) (small k within) (λ w. then (f w) (walker b rs)) (is k from) (behind first (inner b)) (follow_behind f (walker b rs) (inner b) (same b rs) first firsts)

    pub follow_branches : (rest : List (List Placed)) (k : ℕ) → start ≤ k → drop k all ≡ rest → AllFollow (taking line most main h) (by_branches inner first (k + more) rest)
    follow_branches [] k from left = subst (AllFollow (taking line most main h)) (sym (choices.branches_none inner first (k + more))) tt
    follow_branches (b ∷ rest) k from left =
        let Told = AllFollow (taking line most main h) in
        let next : (k + 1) + more ≡ (k + more) + 1 = omega arith in
        let these : Told (chosen (k + more) false (behind first (inner b))) = subst (λ x. Told (chosen (k + more) false (behind first (inner x)))) (here all k b rest left) (follow_branch k from (inside all k b rest left)) in
        let those : Told (by_branches inner first ((k + more) + 1) rest) = subst (λ n. Told (by_branches inner first n rest)) next (follow_branches rest (k + 1) (omega (arith, from)) (behind_it all k b rest left)) in
        subst Told (sym (choices.branches_cons inner first (k + more) b rest)) (all_append (Follows (taking line most main h)) (chosen (k + more) false (behind first (inner b))) (by_branches inner first ((k + more) + 1) rest) these those)
