-- A block of any kind: each arrow in it is met once in each of its rounds.
use Rattle.std.proofs.Common.{◌≡◌, ℕ, ◌+◌, ◌-◌, ◌≤◌, cond, nat_le, nat_lt, ◌==◌, length, arith, List, refl, ◌∙◌}
use Rattle.std.specs.List.{AllByRecursion}
use Rattle.std.proofs.lemmas.Bool.{leb-true}
use Rattle.msc_chart.specs.Lists.{Occurs}
use Rattle.msc_chart.proofs.ListLemmas.{by_test}
use Rattle.msc_scenarios.specs.declared.TheConstants.{ROUND_LIMIT}
use Rattle.msc_scenarios.specs.declared.steps.Message.{Message}
use Rattle.msc_scenarios.specs.declared.steps.Step.TheVariants as steps
use Rattle.msc_mermaid.specs.declared.row.Kind.{Kind}
use Rattle.msc_mermaid.specs.declared.row.Kind.TheVariants as kinds
use Rattle.msc_mermaid.specs.declared.statement.Placed.{Placed}
use Rattle.msc_scenarios.specs.Steps.{Walk, Walker, block, branch_at, branches_in, broken, choice_of, choose, follow, passage_of, formed, is_there, most_of, put, rounds_from, side_by_side, then, unbroken, with_choice}
use Rattle.msc_place.specs.declared.position.Position.{Position}
use Rattle.msc_import_laws.specs.Outlined.{AreDistinct}
use Rattle.msc_import_laws.proofs.Distinct.{distinct_branch, distinct_branches, in_branch, in_branches, together}
use Rattle.msc_import_laws.proofs.Growth.{Grows, grows_after, grows_none, grows_on, grows_put, grows_same, grows_then, grows_wider}
use Rattle.msc_import_laws.proofs.Numbers.{IsRound}
use Rattle.msc_import_laws.proofs.MetArrows.{AreLow, IsMet, Meets, low_in, met_wider}
use Rattle.msc_import_laws.proofs.MetRounds.{IsInRounds, in_round, rounds_grow}
use Rattle.msc_import_laws.proofs.MetBranches.{one_grows, options_grow, sides_grow}

-- what follows the choice of a block, where one is taken that it has
pub choice_grows : (R : Message → Type 0) (line : Position) (most main : ℕ) (w : Walk) (f : ℕ → Walk → Walk) → ((c : ℕ) (v : Walk) → c ≤ most → v.lines ≡ w.lines → Grows R v (f c v)) → Grows R w (then (choose line most main w) (f (choice_of main w)))
unfolding choose
choice_grows R line most main w f h =
    let c : ℕ = choice_of main w in
    by_test (nat_le c most)
    (λ within. rw within (grows_then (λ m. ⊥) R R w (with_choice c w) (f c) (grows_none (λ m. ⊥) w (with_choice c w) refl refl refl) (h c (with_choice c w) (leb-true c most within) refl) (λ m n g k e. g) (λ m g. absurd g) (λ m g. g)))
    (λ beyond. rw beyond (grows_none R w _ refl refl refl))

module _ (lines : List (List ℕ)) (d : ℕ) (inner : Walker) (good : Meets lines d inner) (rounds : List ℕ) (short : AllByRecursion IsRound rounds) (bs : List (List Placed)) (distinct : AreDistinct (together bs)) (low : AreLow (together bs)) where
  -- what is met in the block
  Inside : Message → Type 0
  Inside = IsMet lines (d + 1) (together bs) rounds

  follow_one : (c : ℕ) (w : Walk) → w.lines ≡ lines → Grows Inside w (follow inner (passage_of kinds.Alt 2) bs rounds c w)
  unfolding follow Inside
  follow_one c w same = one_grows lines d inner good rounds short bs distinct low c w (unbroken (inner (branch_at bs c) rounds w)) same refl refl refl

  follow_maybe : (c : ℕ) (w : Walk) → w.lines ≡ lines → Grows Inside w (follow inner (passage_of kinds.Opt 0) bs rounds c w)
  unfolding follow Inside
  follow_maybe c w same =
      by_test (c == 0)
      (λ none. rw none (grows_same Inside w))
      (λ some. rw some (one_grows lines d inner good rounds short bs distinct low (c - 1) w (unbroken (inner (branch_at bs (c - 1)) rounds w)) same refl refl refl))

  follow_break : (c : ℕ) (w : Walk) → w.lines ≡ lines → Grows Inside w (follow inner (passage_of kinds.Break 0) bs rounds c w)
  unfolding follow Inside
  follow_break c w same =
      by_test (c == 0)
      (λ none. rw none (grows_same Inside w))
      (λ some. rw some (one_grows lines d inner good rounds short bs distinct low 0 w (broken (inner (branch_at bs 0) rounds w)) same refl refl refl))

  follow_first : (c : ℕ) (w : Walk) → w.lines ≡ lines → Grows Inside w (follow inner (passage_of kinds.Critical 2) bs rounds c w)
  unfolding follow Inside
  follow_first c w same =
      let v : Walk = then (inner (branch_at bs 0) rounds w) (λ v. cond (c == 0) v (inner (branch_at bs c) rounds v)) in
      grows_after Inside w v (unbroken v) (options_grow lines d inner good rounds short bs distinct low c w same) refl refl refl

  follow_rounds : (c : ℕ) (w : Walk) → c ≤ ROUND_LIMIT → w.lines ≡ lines → Grows Inside w (follow inner (passage_of kinds.Loop 0) bs rounds c w)
  unfolding follow Inside
  follow_rounds c w le same =
      let body : List Placed = branch_at bs 0 in
      let in_body : (p : Placed) → Occurs body p → Occurs (together bs) p = in_branch bs 0 in
      let v : Walk = rounds_from inner body rounds 0 c w in
      let first = rounds_grow lines d inner good body (distinct_branch bs 0 distinct) (low_in (together bs) body in_body low) rounds short c 0 w (omega (arith, le)) same in
      grows_after Inside w v (unbroken v)
      (grows_wider (IsInRounds lines d body rounds 0 c) Inside w v (λ m h. met_wider lines (d + 1) (d + 1) body (together bs) rounds (omega arith) in_body m (in_round lines d inner good body (distinct_branch bs 0 distinct) (low_in (together bs) body in_body low) rounds short 0 c m (omega (arith, le)) h)) first)
      refl refl refl

  formed_par : (line : Position) (w : Walk) → w.lines ≡ lines → Grows Inside w (formed inner line (passage_of kinds.Par 0) bs rounds w)
  unfolding formed Inside
  formed_par line w same =
      let here : Message → Type 0 = IsMet lines d (together bs) rounds in
      let v : Walk = put (steps.Opens line) w in
      let u : Walk = side_by_side inner bs rounds v in
      let sides = sides_grow lines d inner good rounds short bs v distinct low same in
      let opened = grows_on (λ m. ⊥) here here w v u (grows_put (λ m. ⊥) (steps.Opens line) w refl) sides (λ m n g k e. g) (λ m g. absurd g) (λ m g. g) in
      grows_then here (λ m. ⊥) Inside w u (put steps.Closes) opened (grows_put (λ m. ⊥) steps.Closes u refl) (λ m n g k e. k) (met_wider lines d (d + 1) (together bs) (together bs) rounds (omega arith) (λ p o. o)) (λ m g. absurd g)

  formed_plain : (line : Position) (w : Walk) → w.lines ≡ lines → Grows Inside w (formed inner line (passage_of kinds.Plain 0) bs rounds w)
  unfolding formed Inside
  formed_plain line w same = one_grows lines d inner good rounds short bs distinct low 0 w (inner (branch_at bs 0) rounds w) same refl refl refl

  formed_one : (line : Position) (w : Walk) → w.lines ≡ lines → Grows Inside w (formed inner line (passage_of kinds.Alt 2) bs rounds w)
  unfolding formed
  formed_one line w same = choice_grows Inside line (most_of (passage_of kinds.Alt 2) (length bs)) 0 w (follow inner (passage_of kinds.Alt 2) bs rounds) (λ c v le e. follow_one c v (e ∙ same))

  formed_maybe : (line : Position) (w : Walk) → w.lines ≡ lines → Grows Inside w (formed inner line (passage_of kinds.Opt 0) bs rounds w)
  unfolding formed
  formed_maybe line w same = choice_grows Inside line (most_of (passage_of kinds.Opt 0) (length bs)) 1 w (follow inner (passage_of kinds.Opt 0) bs rounds) (λ c v le e. follow_maybe c v (e ∙ same))

  formed_break : (line : Position) (w : Walk) → w.lines ≡ lines → Grows Inside w (formed inner line (passage_of kinds.Break 0) bs rounds w)
  unfolding formed
  formed_break line w same = choice_grows Inside line (most_of (passage_of kinds.Break 0) (length bs)) 0 w (follow inner (passage_of kinds.Break 0) bs rounds) (λ c v le e. follow_break c v (e ∙ same))

  formed_first : (line : Position) (w : Walk) → w.lines ≡ lines → Grows Inside w (formed inner line (passage_of kinds.Critical 2) bs rounds w)
  unfolding formed
  formed_first line w same = choice_grows Inside line (most_of (passage_of kinds.Critical 2) (length bs)) 0 w (follow inner (passage_of kinds.Critical 2) bs rounds) (λ c v le e. follow_first c v (e ∙ same))

  formed_rounds : (line : Position) (w : Walk) → w.lines ≡ lines → Grows Inside w (formed inner line (passage_of kinds.Loop 0) bs rounds w)
  unfolding formed
  formed_rounds line w same = choice_grows Inside line ROUND_LIMIT 1 w (follow inner (passage_of kinds.Loop 0) bs rounds) (λ c v le e. follow_rounds c v le (e ∙ same))

  -- a block of any kind
  formed_grows : (line : Position) (n : ℕ) (kind : Kind) (w : Walk) → w.lines ≡ lines → Grows Inside w (formed inner line (passage_of kind n) bs rounds w)
  formed_grows line n kinds.Alt w same = by_test (nat_lt 1 n) (λ several. rw several (formed_one line w same)) (λ one. rw one (formed_maybe line w same))
  formed_grows line n kinds.Opt w same = formed_maybe line w same
  formed_grows line n kinds.Loop w same = formed_rounds line w same
  formed_grows line n kinds.Break w same = formed_break line w same
  formed_grows line n kinds.Critical w same = by_test (nat_lt 1 n) (λ several. rw several (formed_first line w same)) (λ one. rw one (formed_plain line w same))
  formed_grows line n kinds.Par w same = formed_par line w same
  formed_grows line n kinds.Plain w same = formed_plain line w same

module _ (lines : List (List ℕ)) (d : ℕ) (inner : Walker) (good : Meets lines d inner) where
  pub block_grows : (line : Position) (kind : Kind) (inside : List Placed) (rounds : List ℕ) (w : Walk) → AreDistinct inside → AreLow inside → AllByRecursion IsRound rounds → w.lines ≡ lines
      → Grows (IsMet lines (d + 1) inside rounds) w (block inner line kind inside rounds w)
  unfolding block Inside
  block_grows line kind inside rounds w distinct low short same =
      let bs : List (List Placed) = branches_in 0 inside in
      let found = formed_grows lines d inner good rounds short bs (distinct_branches 0 inside distinct) (low_in inside (together bs) (in_branches 0 inside) low) line (length bs) kind w same in
      by_test (is_there kind inside)
      (λ there. rw there (grows_wider (IsMet lines (d + 1) (together bs) rounds) (IsMet lines (d + 1) inside rounds) w (formed inner line (passage_of kind (length bs)) bs rounds w) (met_wider lines (d + 1) (d + 1) (together bs) inside rounds (omega arith) (in_branches 0 inside)) found))
      (λ none. rw none (grows_same (IsMet lines (d + 1) inside rounds) w))
