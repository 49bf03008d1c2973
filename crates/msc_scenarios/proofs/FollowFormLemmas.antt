-- A walk that is given the choices of a path through a block takes them.
use Rattle.std.proofs.Common.{◌≡◌, ◌<◌, ◌≤◌, ℕ, ◌+◌, ◌-◌, ◌==◌, true, false, cond, nat_le, List, [], ◌∷◌, ◌++◌, length, drop, refl, sym, ap, ◌∙◌, subst, arith}
use Rattle.std.specs.List.{list_all}
use Rattle.std.proofs.lemmas.Bool.{and_parts}
use Rattle.std.proofs.lemmas.Bool.Decides.{nat_tests}
use Rattle.msc_scenarios.specs.declared.TheConstants.{ROUND_LIMIT}
use Rattle.msc_scenarios.specs.declared.steps.Ending.TheVariants as ends
use Rattle.msc_scenarios.specs.declared.steps.Passage.{Passage}
use Rattle.msc_scenarios.specs.declared.steps.Passage.TheVariants as passages
use Rattle.msc_scenarios.specs.declared.steps.Step.TheVariants as steps
use Rattle.msc_place.specs.declared.position.Position.{Position}
use Rattle.msc_mermaid.specs.declared.statement.Placed.{Placed}
use Rattle.msc_scenarios.specs.Choosing as choosing
use Rattle.msc_scenarios.specs.Choosing.{Chooser, by_branches, by_options, by_rounds, by_sides, chosen, repeated, straight, with_end}
use Rattle.msc_scenarios.specs.Steps as passing
use Rattle.msc_scenarios.specs.Steps.{Walk, Walker, branch_at, broken, follow, main_of, most_of, put, rounds_from, side_by_side, then, unbroken, walk}
use Rattle.msc_scenarios.proofs.ChoiceLemmas as choices
use Rattle.msc_scenarios.proofs.FollowLemmas.{Follows, follows_cut, follows_passed, follows_when, then_going, then_same, unbroken_going}
use Rattle.msc_scenarios.proofs.FollowListLemmas.{AllFollow, all_same, follow_choice, follow_chosen, follow_rounds, follow_sides, follow_straight, put_keeps, retold, taking}
use Rattle.msc_place.proofs.Walks.{AllByRecursion-append as all_append}
use Rattle.msc_scenarios.proofs.FollowBranchLemmas.{follow_branches}

-- choices that are small enough
pub small_less : (n i : ℕ) → i < n → nat_le (i + 0) (n - 1) ≡ true
small_less n i h = grind (arith, nat_tests)

pub small_next : (n i : ℕ) → i < n → nat_le (i + 1) n ≡ true
small_next n i h = grind (arith, nat_tests)

pub least : (n : ℕ) → nat_le 0 n ≡ true
least n = grind (arith, nat_tests)

pub is_some : (i : ℕ) → 1 ≤ i → (i == 0) ≡ false
is_some i h = grind (arith, nat_tests)

-- what follows a choice, where a walk goes on
module _ (walker : Walker) (bs : List (List Placed)) (rs : List ℕ) (w : Walk) where
  module _ (going : w.ending ≡ ends.Goes) where
    pub one_of_is : (i : ℕ) → follow walker passages.OneOf bs rs (i + 0) w ≡ unbroken (then w (walker (branch_at bs i) rs))
    unfolding follow
    one_of_is i =
        let plain : i + 0 ≡ i = omega arith in
        ap (λ j. unbroken (walker (branch_at bs j) rs w)) plain ∙ ap unbroken (sym (then_going w (walker (branch_at bs i) rs) going))

    pub maybe_is : (i : ℕ) → follow walker passages.Maybe bs rs (i + 1) w ≡ unbroken (then w (walker (branch_at bs i) rs))
    unfolding follow
    maybe_is i =
        let place : (i + 1) - 1 ≡ i = omega arith in
        ap (λ t. cond t w (unbroken (walker (branch_at bs ((i + 1) - 1)) rs w))) (is_some (i + 1) (omega arith)) ∙ ap (λ j. unbroken (walker (branch_at bs j) rs w)) place ∙ ap unbroken (sym (then_going w (walker (branch_at bs i) rs) going))

    pub maybe_not : follow walker passages.Maybe bs rs 0 w ≡ unbroken w
    unfolding follow
    maybe_not = sym (unbroken_going w going)

    pub break_not : follow walker passages.Break bs rs 0 w ≡ unbroken w
    unfolding follow
    break_not = sym (unbroken_going w going)

    pub rounds_are : (r : ℕ) → follow walker passages.Rounds bs rs r w ≡ unbroken (then w (rounds_from walker (branch_at bs 0) rs 0 r))
    unfolding follow
    rounds_are r = ap unbroken (sym (then_going w (rounds_from walker (branch_at bs 0) rs 0 r) going))

  pub break_is : follow walker passages.Break bs rs 1 w ≡ broken (walker (branch_at bs 0) rs w)
  unfolding follow
  break_is = refl

  pub first_is : (i : ℕ) → 1 ≤ i → follow walker passages.First bs rs (i + 0) w ≡ unbroken (then (walker (branch_at bs 0) rs w) (walker (branch_at bs i) rs))
  unfolding follow
  first_is i h =
      let plain : i + 0 ≡ i = omega arith in let v = walker (branch_at bs 0) rs w in
      ap (λ j. unbroken (then v (λ u. cond (j == 0) u (walker (branch_at bs j) rs u)))) plain ∙ ap (λ t. unbroken (then v (λ u. cond t u (walker (branch_at bs i) rs u)))) (is_some i h)

  pub first_not : follow walker passages.First bs rs 0 w ≡ unbroken (walker (branch_at bs 0) rs w)
  unfolding follow
  first_not = ap unbroken (then_same (walker (branch_at bs 0) rs w))

module _ (inner : Chooser) (walker : Walker) (same : (b : List Placed) (rs : List ℕ) → AllFollow (walker b rs) (inner b)) (rs : List ℕ) (line : Position) (bs : List (List Placed)) where
  -- a block of a form that takes a choice
  abbrev takes : Passage → Walk → Walk
  takes passage = taking line (most_of passage (length bs)) (main_of passage) (follow walker passage bs rs)

  follow_one_of : AllFollow (takes passages.OneOf) (by_branches inner straight 0 bs)
  follow_one_of =
      follow_branches inner walker same rs line (length bs - 1) 0 (follow walker passages.OneOf bs rs) (λ w. w) straight follow_straight bs 0 0 (small_less (length bs)) (λ i from w e. one_of_is walker bs rs w e i) bs 0 (omega arith) refl

  follow_maybe : AllFollow (takes passages.Maybe) (by_options inner straight bs)
  follow_maybe =
      let h = follow walker passages.Maybe bs rs in
      let none = follow_choice line (length bs) 1 h 0 (least (length bs)) (λ w. w) (λ w e. maybe_not walker bs rs w e) straight follow_straight in
      let some = follow_branches inner walker same rs line (length bs) 1 h (λ w. w) straight follow_straight bs 0 1 (small_next (length bs)) (λ i from w e. maybe_is walker bs rs w e i) bs 0 (omega arith) refl in
      all_append (Follows (takes passages.Maybe)) (chosen 0 false straight) (by_branches inner straight 1 bs) none some

  follow_first : AllFollow (takes passages.First) (by_options inner (inner (branch_at bs 0)) (drop 1 bs))
  follow_first =
      let h = follow walker passages.First bs rs in let b = branch_at bs 0 in
      let none = follow_choice line (length bs - 1) 0 h 0 (least (length bs - 1)) (walker b rs) (λ w e. first_not walker bs rs w) (inner b) (same b rs) in
      let some = follow_branches inner walker same rs line (length bs - 1) 0 h (walker b rs) (inner b) (same b rs) bs 1 0 (small_less (length bs)) (λ i from w e. first_is walker bs rs w i from) (drop 1 bs) 1 (omega arith) refl in
      all_append (Follows (takes passages.First)) (chosen 0 false (inner b)) (by_branches inner (inner b) 1 (drop 1 bs)) none some

  follow_break : AllFollow (takes passages.Break) (chosen 0 false straight ++ chosen 1 true (inner (branch_at bs 0)))
  follow_break =
      let h = follow walker passages.Break bs rs in let b = branch_at bs 0 in
      let none = follow_choice line 1 0 h 0 refl (λ w. w) (λ w e. break_not walker bs rs w e) straight follow_straight in
      let cut = all_same (Follows (walker b rs)) (λ v. Follows (h 1) (with_end true v)) (λ v k. follows_when (λ w. broken (walker b rs w)) (h 1) (with_end true v) (λ w e. break_is walker bs rs w) (follows_cut (walker b rs) v k)) (inner b) (same b rs) in
      all_append (Follows (takes passages.Break)) (chosen 0 false straight) (chosen 1 true (inner b)) none (follow_chosen line 1 0 h 1 true refl (inner b) cut)

  follow_loop : (rounds : List ℕ) → list_all (λ r. nat_le r ROUND_LIMIT) rounds ≡ true → AllFollow (takes passages.Rounds) (by_rounds (inner (branch_at bs 0)) rounds)
  follow_loop [] few = subst (AllFollow (takes passages.Rounds)) (sym (choices.rounds_none (inner (branch_at bs 0)))) tt
  follow_loop (r ∷ rounds) few =
      let h = follow walker passages.Rounds bs rs in let b = branch_at bs 0 in let parts = and_parts _ _ few in
      let body = follow_rounds inner walker same rs b r 0 (λ w. w) straight follow_straight in
      let these = follow_choice line ROUND_LIMIT 1 h r parts.0 (λ w. then w (rounds_from walker b rs 0 r)) (λ w e. rounds_are walker bs rs w e r) (repeated (inner b) r straight) body in
      subst (AllFollow (takes passages.Rounds)) (sym (choices.rounds_cons (inner b) r rounds)) (all_append (Follows (takes passages.Rounds)) (chosen r false (repeated (inner b) r straight)) (by_rounds (inner b) rounds) these (follow_loop rounds parts.1))

  -- parallel branches stand between two marks
  follow_par : AllFollow (λ w. then (side_by_side walker bs rs (put (steps.Opens line) w)) (put steps.Closes)) (by_sides inner bs straight)
  follow_par =
      let opens = put (steps.Opens line) in let sides = side_by_side walker bs rs in
      let opened = retold (λ w. then w opens) opens straight (λ w e. sym (then_going w opens e)) (all_same (Follows (λ w. w)) (Follows (λ w. then w opens)) (follows_passed (λ w. w) opens (put_keeps (steps.Opens line))) straight follow_straight) in
      let walked = follow_sides inner walker same rs bs opens straight opened in
      let told = retold (λ w. then (opens w) sides) (λ w. sides (opens w)) (by_sides inner bs straight) (λ w e. sym (then_going (opens w) sides e)) walked in
      all_same (Follows (λ w. sides (opens w))) (Follows (λ w. then (sides (opens w)) (put steps.Closes))) (follows_passed (λ w. sides (opens w)) (put steps.Closes) (put_keeps steps.Closes)) (by_sides inner bs straight) told

  pub follow_formed : (rounds : List ℕ) → list_all (λ r. nat_le r ROUND_LIMIT) rounds ≡ true → (passage : Passage) → AllFollow (passing.formed walker line passage bs rs) (choosing.formed inner rounds passage bs)
  unfolding passing.formed choosing.formed
  follow_formed rounds few passages.OneOf = follow_one_of
  follow_formed rounds few passages.Maybe = follow_maybe
  follow_formed rounds few passages.Rounds = follow_loop rounds few
  follow_formed rounds few passages.Break = follow_break
  follow_formed rounds few passages.First = follow_first
  follow_formed rounds few passages.Par = follow_par
  follow_formed rounds few passages.Plain = same (branch_at bs 0) rs
