-- What a walk through a block takes is one of the paths through it, or it stops.
use Rattle.std.proofs.Common.{◌≡◌, ◌⊎◌, inl, inr, ◌<◌, ◌≤◌, ℕ, zero, suc, ◌+◌, ◌-◌, true, false, nat_le, List, [], ◌∷◌, ◌++◌, length, drop, refl, sym, ap, ◌∙◌, subst, arith}
use Rattle.std.proofs.Math.Nat.{eq-or-lt_of_le}
use Rattle.std.proofs.lemmas.Bool.Decides.{nat_tests}
use Rattle.std.proofs.lemmas.List.{length-drop}
use Rattle.msc_scenarios.specs.declared.TheConstants.{ROUND_LIMIT}
use Rattle.msc_scenarios.specs.declared.path.Path.{Path}
use Rattle.msc_scenarios.specs.declared.steps.Ending.TheVariants as ends
use Rattle.msc_scenarios.specs.declared.steps.Passage.{Passage}
use Rattle.msc_scenarios.specs.declared.steps.Passage.TheVariants as passages
use Rattle.msc_scenarios.specs.declared.steps.Step.TheVariants as steps
use Rattle.msc_place.specs.declared.position.Position.{Position}
use Rattle.msc_mermaid.specs.declared.statement.Placed.{Placed}
use Rattle.msc_scenarios.specs.Choosing as choosing
use Rattle.msc_scenarios.specs.Choosing.{Chooser, behind, by_branches, by_options, by_rounds, by_sides, chosen, healed, repeated, straight}
use Rattle.msc_scenarios.specs.Steps as passing
use Rattle.msc_scenarios.specs.Steps.{Walk, Walker, branch_at, broken, follow, main_of, most_of, put, rounds_from, side_by_side, then, unbroken}
use Rattle.msc_scenarios.proofs.ChoiceLemmas as choices
use Rattle.msc_scenarios.proofs.CoverLemmas.{Covers, CoversUnder, Has, cover_behind, cover_cut, cover_healed, cover_more, cover_passed, cover_straight, cover_taking, cover_under, cover_when, has_left, has_right, put_passes}
use Rattle.msc_scenarios.proofs.FollowBranchLemmas.{behind_it, here}
use Rattle.msc_scenarios.proofs.FollowFormLemmas.{break_not, first_is, first_not, maybe_is, maybe_not, one_of_is, rounds_are}
use Rattle.msc_scenarios.proofs.FollowLemmas.{then_going, then_same, then_then}
use Rattle.msc_scenarios.proofs.FollowListLemmas.{taking, then_as}
use Rattle.msc_scenarios.proofs.WalkLemmas as walks

-- the paths by one of the branches are among those by all of them
module _ (P : Path → Type 0) (inner : Chooser) (first : List Path) (all : List (List Placed)) (more i : ℕ) (these : Has P (chosen (i + more) false (behind first (inner (branch_at all i))))) where
  among_next : (b : List Placed) (rest : List (List Placed)) (k : ℕ) → (k ≡ i) ⊎ (k < i) → drop k all ≡ b ∷ rest → (k < i → Has P (by_branches inner first ((k + 1) + more) rest)) → Has P (chosen (k + more) false (behind first (inner b)) ++ by_branches inner first ((k + more) + 1) rest)
  among_next b rest k (inl same) left later =
      let found = λ (x : List Placed). chosen (k + more) false (behind first (inner x)) in
      let there = subst (λ n. Has P (chosen (n + more) false (behind first (inner (branch_at all n))))) (sym same) these in
      has_left P (found b) (by_branches inner first ((k + more) + 1) rest) (subst (λ x. Has P (found x)) (here all k b rest left) there)
  among_next b rest k (inr less) left later =
      let place : (k + 1) + more ≡ (k + more) + 1 = omega arith in
      has_right P (chosen (k + more) false (behind first (inner b))) (by_branches inner first ((k + more) + 1) rest) (subst (λ n. Has P (by_branches inner first n rest)) place (later less))

  pub among_branches : (rest : List (List Placed)) (k : ℕ) → k ≤ i → i < length all → drop k all ≡ rest → Has P (by_branches inner first (k + more) rest)
  among_branches [] k upto within left = absurd (omega (arith, length-drop k all, ap length left))
  among_branches (b ∷ rest) k upto within left =
      subst (Has P) (sym (choices.branches_cons inner first (k + more) b rest)) (among_next b rest k (eq-or-lt_of_le upto) left (λ less. among_branches rest (k + 1) (omega (arith, less)) within (behind_it all k b rest left)))

-- the paths by one of the numbers of rounds are among those by all of them
module _ (P : Path → Type 0) (body : List Path) (r : ℕ) (these : Has P (chosen r false (repeated body r straight))) where
  among_next_rounds : (s : ℕ) (rounds : List ℕ) → (s ≡ r) ⊎ Has P (by_rounds body rounds) → Has P (chosen s false (repeated body s straight) ++ by_rounds body rounds)
  among_next_rounds s rounds (inl same) =
      has_left P (chosen s false (repeated body s straight)) (by_rounds body rounds) (subst (λ n. Has P (chosen n false (repeated body n straight))) (sym same) these)
  among_next_rounds s rounds (inr h) = has_right P (chosen s false (repeated body s straight)) (by_rounds body rounds) h

  among_rounds : (rounds : List ℕ) → Has (λ s. s ≡ r) rounds → Has P (by_rounds body rounds)
  among_rounds [] h = absurd h
  among_rounds (s ∷ rounds) (inl same) = subst (Has P) (sym (choices.rounds_cons body s rounds)) (among_next_rounds s rounds (inl same))
  among_rounds (s ∷ rounds) (inr h) = subst (Has P) (sym (choices.rounds_cons body s rounds)) (among_next_rounds s rounds (inr (among_rounds rounds h)))

no_more : (m n : ℕ) → nat_le m n ≡ true → m ≤ n
no_more m n h = grind (arith, nat_tests)

module _ (inner : Chooser) (walker : Walker) (same : (b : List Placed) (rs : List ℕ) → Covers (walker b rs) (inner b)) (rs : List ℕ) where
  -- rounds of a loop
  cover_rounds : (body : List Placed) (n k : ℕ) (f : Walk → Walk) (ws : List Path) → Covers f ws → Covers (λ w. then (f w) (rounds_from walker body rs k n)) (repeated (inner body) n ws)
  cover_rounds body zero k f ws h =
      let on = rounds_from walker body rs k 0 in
      subst (Covers (λ w. then (f w) on)) (sym (choices.repeated_none (inner body) 0 ws refl)) (cover_when f (λ w. then (f w) on) ws (λ w e. then_as (f w) on (λ v. v) (walks.round_none walker body rs k 0 (f w) refl) ∙ then_same (f w)) h)
  cover_rounds body (suc n) k f ws h =
      let step = walker body (rs ++ (k + 1) ∷ []) in let more = behind ws (inner body) in
      let on = rounds_from walker body rs k (suc n) in let rest = rounds_from walker body rs (k + 1) n in
      let next = cover_rounds body n (k + 1) (λ w. then (f w) step) more (cover_behind f step ws (inner body) h (same body (rs ++ (k + 1) ∷ []))) in
      let is = λ (w : Walk) (e : w.ending ≡ ends.Goes). then_as (f w) on (λ v. then (step v) rest) (walks.round_step walker body rs k (suc n) n (f w) refl) ∙ sym (then_then (f w) step rest) in
      subst (Covers (λ w. then (f w) on)) (sym (choices.repeated_more (inner body) (suc n) n ws refl)) (cover_when (λ w. then (then (f w) step) rest) (λ w. then (f w) on) (repeated (inner body) n more) is next)

  -- parallel branches
  cover_side : (b : List Placed) → Covers (λ w. then (unbroken (walker b rs w)) (put steps.Next)) (healed (inner b))
  cover_side b = cover_passed (λ w. unbroken (walker b rs w)) (put steps.Next) (healed (inner b)) (put_passes steps.Next) (cover_healed (walker b rs) (inner b) (same b rs))

  cover_sides : (bs : List (List Placed)) (f : Walk → Walk) (ws : List Path) → Covers f ws → Covers (λ w. then (f w) (side_by_side walker bs rs)) (by_sides inner bs ws)
  cover_sides [] f ws h =
      let on = side_by_side walker [] rs in
      subst (Covers (λ w. then (f w) on)) (sym (choices.sides_none inner ws)) (cover_when f (λ w. then (f w) on) ws (λ w e. then_as (f w) on (λ v. v) (walks.side_none walker rs (f w)) ∙ then_same (f w)) h)
  cover_sides (b ∷ bs) f ws h =
      let step = λ (w : Walk). then (unbroken (walker b rs w)) (put steps.Next) in let more = behind ws (healed (inner b)) in
      let on = side_by_side walker (b ∷ bs) rs in let rest = side_by_side walker bs rs in
      let next = cover_sides bs (λ w. then (f w) step) more (cover_behind f step ws (healed (inner b)) h (cover_side b)) in
      let is = λ (w : Walk) (e : w.ending ≡ ends.Goes). then_as (f w) on (λ v. then (step v) rest) (walks.side_cons walker b bs rs (f w)) ∙ sym (then_then (f w) step rest) in
      subst (Covers (λ w. then (f w) on)) (sym (choices.sides_cons inner b bs ws)) (cover_when (λ w. then (then (f w) step) rest) (λ w. then (f w) on) (by_sides inner bs more) is next)

  -- one of the branches behind the first paths
  cover_branch : (c : ℕ) (f h : Walk → Walk) (first : List Path) (b : List Placed) → Covers f first → ((w : Walk) → w.ending ≡ ends.Goes → h w ≡ unbroken (then (f w) (walker b rs))) → CoversUnder c h (chosen c false (behind first (inner b)))
  cover_branch c f h first b firsts is =
      cover_under c (λ w. then (f w) (walker b rs)) h (behind first (inner b)) is (cover_behind f (walker b rs) first (inner b) firsts (same b rs))

  module _ (line : Position) (bs : List (List Placed)) where
    abbrev takes : Passage → Walk → Walk
    takes passage = taking line (most_of passage (length bs)) (main_of passage) (follow walker passage bs rs)

    cover_one_of : 0 < length bs → Covers (takes passages.OneOf) (by_branches inner straight 0 bs)
    cover_one_of some =
        let h = follow walker passages.OneOf bs rs in let paths = by_branches inner straight 0 bs in
        cover_taking line (length bs - 1) 0 h paths (λ c small.
        let within : c < length bs = omega (arith, some, no_more c (length bs - 1) small) in
        let plain : c + 0 ≡ c = omega arith in
        let these = cover_branch (c + 0) (λ w. w) (h (c + 0)) straight (branch_at bs c) cover_straight (λ w e. one_of_is walker bs rs w e c) in
        subst (λ n. CoversUnder n (h n) paths) plain (cover_more (c + 0) (h (c + 0)) (chosen (c + 0) false (behind straight (inner (branch_at bs c)))) paths (λ P k. among_branches P inner straight bs 0 c k bs 0 (omega arith) within refl) these))

    maybe_each : (c : ℕ) → nat_le c (length bs) ≡ true → CoversUnder c (follow walker passages.Maybe bs rs c) (by_options inner straight bs)
    maybe_each zero small =
        cover_more 0 (follow walker passages.Maybe bs rs 0) (chosen 0 false straight) (by_options inner straight bs) (λ P k. has_left P (chosen 0 false straight) (by_branches inner straight 1 bs) k) (cover_under 0 (λ w. w) (follow walker passages.Maybe bs rs 0) straight (λ w e. maybe_not walker bs rs w e) cover_straight)
    maybe_each (suc i) small =
        let h = follow walker passages.Maybe bs rs in let paths = by_options inner straight bs in
        let within : i < length bs = omega (arith, no_more (suc i) (length bs) small) in
        let next : i + 1 ≡ suc i = omega arith in
        let these = cover_branch (i + 1) (λ w. w) (h (i + 1)) straight (branch_at bs i) cover_straight (λ w e. maybe_is walker bs rs w e i) in
        subst (λ n. CoversUnder n (h n) paths) next (cover_more (i + 1) (h (i + 1)) (chosen (i + 1) false (behind straight (inner (branch_at bs i)))) paths (λ P k. has_right P (chosen 0 false straight) (by_branches inner straight 1 bs) (among_branches P inner straight bs 1 i k bs 0 (omega arith) within refl)) these)

    first_each : (c : ℕ) → nat_le c (length bs - 1) ≡ true → CoversUnder c (follow walker passages.First bs rs c) (by_options inner (inner (branch_at bs 0)) (drop 1 bs))
    first_each zero small =
        let b = branch_at bs 0 in
        cover_more 0 (follow walker passages.First bs rs 0) (chosen 0 false (inner b)) (by_options inner (inner b) (drop 1 bs)) (λ P k. has_left P (chosen 0 false (inner b)) (by_branches inner (inner b) 1 (drop 1 bs)) k) (cover_under 0 (walker b rs) (follow walker passages.First bs rs 0) (inner b) (λ w e. first_not walker bs rs w) (same b rs))
    first_each (suc j) small =
        let h = follow walker passages.First bs rs in let b = branch_at bs 0 in let i = suc j in let paths = by_options inner (inner b) (drop 1 bs) in
        let within : i < length bs = omega (arith, no_more (suc j) (length bs - 1) small) in
        let from : 1 ≤ i = omega arith in
        let plain : i + 0 ≡ i = omega arith in
        let these = cover_branch (i + 0) (walker b rs) (h (i + 0)) (inner b) (branch_at bs i) (same b rs) (λ w e. first_is walker bs rs w i from) in
        subst (λ n. CoversUnder n (h n) paths) plain (cover_more (i + 0) (h (i + 0)) (chosen (i + 0) false (behind (inner b) (inner (branch_at bs i)))) paths (λ P k. has_right P (chosen 0 false (inner b)) (by_branches inner (inner b) 1 (drop 1 bs)) (among_branches P inner (inner b) bs 0 i k (drop 1 bs) 1 from within refl)) these)

    cut_first : CoversUnder 1 (follow walker passages.Break bs rs 1) (chosen 1 true (inner (branch_at bs 0)))
    unfolding follow
    cut_first = cover_cut 1 (walker (branch_at bs 0) rs) (inner (branch_at bs 0)) (same (branch_at bs 0) rs)

    break_each : (c : ℕ) → nat_le c 1 ≡ true → CoversUnder c (follow walker passages.Break bs rs c) (chosen 0 false straight ++ chosen 1 true (inner (branch_at bs 0)))
    break_each zero small =
        let cut = chosen 1 true (inner (branch_at bs 0)) in
        cover_more 0 (follow walker passages.Break bs rs 0) (chosen 0 false straight) (chosen 0 false straight ++ cut) (λ P k. has_left P (chosen 0 false straight) cut k) (cover_under 0 (λ w. w) (follow walker passages.Break bs rs 0) straight (λ w e. break_not walker bs rs w e) cover_straight)
    break_each (suc zero) small =
        let b = branch_at bs 0 in let cut = chosen 1 true (inner b) in
        cover_more 1 (follow walker passages.Break bs rs 1) cut (chosen 0 false straight ++ cut) (λ P k. has_right P (chosen 0 false straight) cut k) cut_first
    break_each (suc (suc c)) small = absurd (omega (arith, no_more (suc (suc c)) 1 small))

    module _ (rounds : List ℕ) (full : (r : ℕ) → r ≤ ROUND_LIMIT → Has (λ s. s ≡ r) rounds) where
      loop_each : (r : ℕ) → nat_le r ROUND_LIMIT ≡ true → CoversUnder r (follow walker passages.Rounds bs rs r) (by_rounds (inner (branch_at bs 0)) rounds)
      loop_each r small =
          let b = branch_at bs 0 in let found = repeated (inner b) r straight in
          let these = cover_under r (λ w. then w (rounds_from walker b rs 0 r)) (follow walker passages.Rounds bs rs r) found (λ w e. rounds_are walker bs rs w e r) (cover_rounds b r 0 (λ w. w) straight cover_straight) in
          cover_more r (follow walker passages.Rounds bs rs r) (chosen r false found) (by_rounds (inner b) rounds) (λ P k. among_rounds P (inner b) r k rounds (full r (no_more r ROUND_LIMIT small))) these

      -- parallel branches stand between two marks
      cover_par : Covers (λ w. then (side_by_side walker bs rs (put (steps.Opens line) w)) (put steps.Closes)) (by_sides inner bs straight)
      cover_par =
          let opens = put (steps.Opens line) in let sides = side_by_side walker bs rs in
          let opened = cover_when (λ w. then w opens) opens straight (λ w e. sym (then_going w opens e)) (cover_passed (λ w. w) opens straight (put_passes (steps.Opens line)) cover_straight) in
          let told = cover_when (λ w. then (opens w) sides) (λ w. sides (opens w)) (by_sides inner bs straight) (λ w e. sym (then_going (opens w) sides e)) (cover_sides bs opens straight opened) in
          cover_passed (λ w. sides (opens w)) (put steps.Closes) (by_sides inner bs straight) (put_passes steps.Closes) told

      pub cover_formed : 0 < length bs → (passage : Passage) → Covers (passing.formed walker line passage bs rs) (choosing.formed inner rounds passage bs)
      unfolding passing.formed choosing.formed
      cover_formed some passages.OneOf = cover_one_of some
      cover_formed some passages.Maybe = cover_taking line (length bs) 1 (follow walker passages.Maybe bs rs) (by_options inner straight bs) maybe_each
      cover_formed some passages.Rounds = cover_taking line ROUND_LIMIT 1 (follow walker passages.Rounds bs rs) (by_rounds (inner (branch_at bs 0)) rounds) loop_each
      cover_formed some passages.Break =
          cover_taking line 1 0 (follow walker passages.Break bs rs) (chosen 0 false straight ++ chosen 1 true (inner (branch_at bs 0))) break_each
      cover_formed some passages.First =
          cover_taking line (length bs - 1) 0 (follow walker passages.First bs rs) (by_options inner (inner (branch_at bs 0)) (drop 1 bs)) first_each
      cover_formed some passages.Par = cover_par
      cover_formed some passages.Plain = same (branch_at bs 0) rs
