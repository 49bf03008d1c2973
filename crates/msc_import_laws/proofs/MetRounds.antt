-- The rounds of a loop: no arrow is met twice in one.
use Rattle.std.proofs.Common.{◌≡◌, ℕ, zero, suc, ◌+◌, ◌<◌, ◌≤◌, arith, List, [], ◌∷◌, ◌++◌, ap, ◌∙◌}
use Rattle.std.specs.List.{AllByRecursion}
use Rattle.std.proofs.lemmas.List.{append_assoc}
use Rattle.msc_scenarios.specs.declared.TheConstants.{ROUND_LIMIT}
use Rattle.msc_scenarios.specs.declared.steps.Message.{Message}
use Rattle.msc_mermaid.specs.declared.statement.Placed.{Placed}
use Rattle.msc_scenarios.specs.Steps.{Walk, Walker, message_of, rounds_from}
use Rattle.msc_import_laws.specs.Outlined.{AreDistinct}
use Rattle.msc_import_laws.proofs.Growth.{Grows, grows_same, grows_then}
use Rattle.msc_import_laws.proofs.Numbers.{IsRound}
use Rattle.msc_import_laws.proofs.MetArrows.{AreLow, IsMet, Meets, same_met}
use Rattle.msc_place.proofs.Walks.{AllByRecursion-append as all_joined}

module _ (lines : List (List ℕ)) where
  -- rounds k of a loop and later ones
  pub record IsInRounds (d : ℕ) (ps : List Placed) (rounds : List ℕ) (k n : ℕ) (m : Message) : Type 0 where
    pub round : ℕ
    pub from : k ≤ round
    pub to : round < k + n
    pub met : IsMet lines d ps (rounds ++ (round + 1) ∷ []) m

  -- behind the same rounds different rounds stay different
  round_differs : (rs xs ys : List ℕ) (i j : ℕ) → (rs ++ i ∷ []) ++ xs ≡ (rs ++ j ∷ []) ++ ys → i ≡ j
  round_differs [] xs ys i j e = cc
  round_differs (r ∷ rs) xs ys i j e =
      let f : r ∷ ((rs ++ i ∷ []) ++ xs) ≡ r ∷ ((rs ++ j ∷ []) ++ ys) = e in
      let g : (rs ++ i ∷ []) ++ xs ≡ (rs ++ j ∷ []) ++ ys = cc in
      round_differs rs xs ys i j g

  module _ (d : ℕ) (inner : Walker) (good : Meets lines d inner) (body : List Placed) (distinct : AreDistinct body) (low : AreLow body) (rounds : List ℕ) (short : AllByRecursion IsRound rounds) where
    with_round : (k : ℕ) → k < ROUND_LIMIT → AllByRecursion IsRound (rounds ++ (k + 1) ∷ [])
    with_round k lt = all_joined IsRound rounds ((k + 1) ∷ []) short (omega (arith, lt), tt)

    pub rounds_grow : (n k : ℕ) (w : Walk) → k + n ≤ ROUND_LIMIT → w.lines ≡ lines → Grows (IsInRounds d body rounds k n) w (rounds_from inner body rounds k n w)
    unfolding rounds_from Meets
    rounds_grow zero k w le same = grows_same (IsInRounds d body rounds k zero) w
    rounds_grow (suc n) k w le same =
        let here = with_round k (omega (arith, le)) in
        let v : Walk = inner body (rounds ++ (k + 1) ∷ []) w in
        let first = good body (rounds ++ (k + 1) ∷ []) w distinct low here same in
        let rest = rounds_grow n (k + 1) v (omega (arith, le)) (first.lines ∙ same) in
        grows_then (IsMet lines d body (rounds ++ (k + 1) ∷ [])) (IsInRounds d body rounds (k + 1) n) (IsInRounds d body rounds k (suc n)) w v (rounds_from inner body rounds (k + 1) n) first rest
        (λ m x h i same.
        let there = with_round i.round (let a = i.to in omega (arith, a, le)) in
        let texts = (same_met lines d d body body (rounds ++ (k + 1) ∷ []) (rounds ++ (i.round + 1) ∷ []) m x here there h i.met same).1 in
        let one = round_differs rounds h.more i.met.more (k + 1) (i.round + 1) texts in
        let from = i.from in omega (arith, one, from))
        (λ m h. record { round = k; from = omega arith; to = omega arith; met = h })
        (λ m h. record { round = h.round; from = let a = h.from in omega (arith, a); to = let a = h.to in omega (arith, a); met = h.met })

    -- a round is a round more
    pub in_round : (k n : ℕ) (m : Message) → k + n ≤ ROUND_LIMIT → IsInRounds d body rounds k n m → IsMet lines (d + 1) body rounds m
    in_round k n m le h = record {
      placed = h.met.placed;
      arrow = h.met.arrow;
      lost = h.met.lost;
      more = (h.round + 1) ∷ h.met.more;
      stands = h.met.stands;
      says = h.met.says;
      low = h.met.low;
      few = let a = h.met.few in omega (arith, a);
      short = (let a = h.to in omega (arith, a, le), h.met.short);
      is = h.met.is ∙ ap (message_of lines h.met.placed h.met.arrow h.met.lost) (append_assoc rounds ((h.round + 1) ∷ []) h.met.more);
    }
