-- Walks, one step more.
use Rattle.std.proofs.Common.{◌≡◌, ◌<◌, ◌≤◌, ℕ, zero, suc, ◌+◌, true, false, List, [], ◌∷◌, ◌++◌, length, get_or, drop, map, refl, sym, ap, ◌∙◌}
use Rattle.std.proofs.lemmas.List.{drop_more, drop_all}
use Rattle.std.proofs.lemmas.Bool.{false≢true}
use Rattle.msc_scenarios.specs.declared.steps.Ending.{Ending}
use Rattle.msc_scenarios.specs.declared.steps.Ending.TheVariants as ends
use Rattle.msc_scenarios.specs.declared.steps.Step.TheVariants as steps
use Rattle.msc_mermaid.specs.declared.statement.Placed.{Placed}
use Rattle.msc_scenarios.specs.Steps.{Walk, Walker, goes, go_on, then, put, unbroken, rounds_from, side_by_side, one, owned_by, walk, walk_on}

-- what goes on does so, and what has ended has
pub goes_yes : (e : Ending) (now next : Walk) → goes e ≡ true → go_on e now next ≡ next
goes_yes ends.Goes now next h = refl
goes_yes ends.Broke now next h = absurd (false≢true h)
goes_yes (ends.Stopped f) now next h = absurd (false≢true h)

pub goes_not : (e : Ending) (now next : Walk) → goes e ≡ false → go_on e now next ≡ now
goes_not ends.Goes now next h = absurd (false≢true (sym h))
goes_not ends.Broke now next h = refl
goes_not (ends.Stopped f) now next h = refl

pub then_on : (w : Walk) (f : Walk → Walk) → goes w.ending ≡ true → then w f ≡ f w
then_on w f h = goes_yes w.ending w (f w) h

pub then_not : (w : Walk) (f : Walk → Walk) → goes w.ending ≡ false → then w f ≡ w
then_not w f h = goes_not w.ending w (f w) h

-- one round more
module _ (inner : Walker) (body : List Placed) (rounds : List ℕ) (k m n : ℕ) (w : Walk) (left : m ≡ suc n) where
  pub round_step : rounds_from inner body rounds k m w ≡ then (inner body (rounds ++ (k + 1) ∷ []) w) (rounds_from inner body rounds (k + 1) n)
  unfolding rounds_from
  round_step = ap (λ x. rounds_from inner body rounds k x w) left

  pub round_on : (v : Walk) → v ≡ inner body (rounds ++ (k + 1) ∷ []) w → goes v.ending ≡ true → rounds_from inner body rounds k m w ≡ rounds_from inner body rounds (k + 1) n v
  round_on v e h = round_step ∙ ap (λ x. then x (rounds_from inner body rounds (k + 1) n)) (sym e) ∙ then_on v (rounds_from inner body rounds (k + 1) n) h

  pub round_not : (v : Walk) → v ≡ inner body (rounds ++ (k + 1) ∷ []) w → goes v.ending ≡ false → rounds_from inner body rounds k m w ≡ v
  round_not v e h = round_step ∙ ap (λ x. then x (rounds_from inner body rounds (k + 1) n)) (sym e) ∙ then_not v (rounds_from inner body rounds (k + 1) n) h

pub round_none : (inner : Walker) (body : List Placed) (rounds : List ℕ) (k m : ℕ) (w : Walk) → m ≡ 0 → rounds_from inner body rounds k m w ≡ w
unfolding rounds_from
round_none inner body rounds k m w e = ap (λ x. rounds_from inner body rounds k x w) e

-- one parallel branch more
pub side_cons : (inner : Walker) (b : List Placed) (bs : List (List Placed)) (rounds : List ℕ) (w : Walk) → side_by_side inner (b ∷ bs) rounds w ≡ then (then (unbroken (inner b rounds w)) (put steps.Next)) (side_by_side inner bs rounds)
unfolding side_by_side
side_cons inner b bs rounds w = refl

pub side_none : (inner : Walker) (rounds : List ℕ) (w : Walk) → side_by_side inner [] rounds w ≡ w
unfolding side_by_side
side_none inner rounds w = refl

module _ {X : Type 0} (f : X → List Placed) (bs : List X) (i : ℕ) (inner : Walker) (rounds : List ℕ) (w : Walk) where
  module _ (d : X) (inside : i < length bs) (v : Walk) (e : v ≡ unbroken (inner (f (get_or bs i d)) rounds w)) where
    side_step : side_by_side inner (map f (drop i bs)) rounds w ≡ then (then v (put steps.Next)) (side_by_side inner (map f (drop (i + 1) bs)) rounds)
    side_step =
        ap (λ x. side_by_side inner (map f x) rounds w) (drop_more bs i d inside) ∙ side_cons inner (f (get_or bs i d)) (map f (drop (i + 1) bs)) rounds w
        ∙ ap (λ x. then (then x (put steps.Next)) (side_by_side inner (map f (drop (i + 1) bs)) rounds)) (sym e)

    pub side_on : goes v.ending ≡ true → side_by_side inner (map f (drop i bs)) rounds w ≡ side_by_side inner (map f (drop (i + 1) bs)) rounds (put steps.Next v)
    side_on h =
        side_step ∙ ap (λ x. then x (side_by_side inner (map f (drop (i + 1) bs)) rounds)) (then_on v (put steps.Next) h)
        ∙ then_on (put steps.Next v) (side_by_side inner (map f (drop (i + 1) bs)) rounds) h

    pub side_not : goes v.ending ≡ false → side_by_side inner (map f (drop i bs)) rounds w ≡ v
    side_not h =
        side_step ∙ ap (λ x. then x (side_by_side inner (map f (drop (i + 1) bs)) rounds)) (then_not v (put steps.Next) h)
        ∙ then_not v (side_by_side inner (map f (drop (i + 1) bs)) rounds) h

  pub side_end : length bs ≤ i → side_by_side inner (map f (drop i bs)) rounds w ≡ w
  side_end over = ap (λ x. side_by_side inner (map f x) rounds w) (drop_all i bs over) ∙ side_none inner rounds w

-- one statement more
pub on_skip : (inner : Walker) (n : ℕ) (p : Placed) (ps : List Placed) (rounds : List ℕ) (w : Walk) → walk_on inner (suc n) (p ∷ ps) rounds w ≡ walk_on inner n ps rounds w
unfolding walk_on
on_skip inner n p ps rounds w = refl

pub on_one : (inner : Walker) (p : Placed) (ps : List Placed) (rounds : List ℕ) (w : Walk) → walk_on inner zero (p ∷ ps) rounds w ≡ then (one inner p p.statement ps rounds w) (walk_on inner (owned_by p.statement ps) ps rounds)
unfolding walk_on
on_one inner p ps rounds w = refl

pub on_none : (inner : Walker) (n : ℕ) (rounds : List ℕ) (w : Walk) → walk_on inner n [] rounds w ≡ w
unfolding walk_on
on_none inner n rounds w = refl

module _ (inner : Walker) (ps : List Placed) (i : ℕ) (rounds : List ℕ) (w : Walk) where
  -- it belongs to one before it
  pub walk_skip : (m n : ℕ) (q : Placed) → i < length ps → m ≡ suc n → walk_on inner m (drop i ps) rounds w ≡ walk_on inner n (drop (i + 1) ps) rounds w
  walk_skip m n q inside e =
      ap (λ x. walk_on inner x (drop i ps) rounds w) e ∙ ap (λ x. walk_on inner (suc n) x rounds w) (drop_more ps i q inside) ∙ on_skip inner n (get_or ps i q) (drop (i + 1) ps) rounds w

  module _ (m : ℕ) (q : Placed) (inside : i < length ps) (none : m ≡ 0) (v : Walk) (e : v ≡ one inner (get_or ps i q) (get_or ps i q).statement (drop (i + 1) ps) rounds w) where
    walk_step : walk_on inner m (drop i ps) rounds w ≡ then v (walk_on inner (owned_by (get_or ps i q).statement (drop (i + 1) ps)) (drop (i + 1) ps) rounds)
    walk_step =
        ap (λ x. walk_on inner x (drop i ps) rounds w) none ∙ ap (λ x. walk_on inner zero x rounds w) (drop_more ps i q inside) ∙ on_one inner (get_or ps i q) (drop (i + 1) ps) rounds w
        ∙ ap (λ x. then x (walk_on inner (owned_by (get_or ps i q).statement (drop (i + 1) ps)) (drop (i + 1) ps) rounds)) (sym e)

    pub walk_next : (n : ℕ) → n ≡ owned_by (get_or ps i q).statement (drop (i + 1) ps) → goes v.ending ≡ true → walk_on inner m (drop i ps) rounds w ≡ walk_on inner n (drop (i + 1) ps) rounds v
    walk_next n same h = walk_step ∙ then_on v (walk_on inner (owned_by (get_or ps i q).statement (drop (i + 1) ps)) (drop (i + 1) ps) rounds) h ∙ ap (λ x. walk_on inner x (drop (i + 1) ps) rounds v) (sym same)

    pub walk_not : goes v.ending ≡ false → walk_on inner m (drop i ps) rounds w ≡ v
    walk_not h = walk_step ∙ then_not v (walk_on inner (owned_by (get_or ps i q).statement (drop (i + 1) ps)) (drop (i + 1) ps) rounds) h

  pub walk_end : (m : ℕ) → length ps ≤ i → walk_on inner m (drop i ps) rounds w ≡ w
  walk_end m over = ap (λ x. walk_on inner m x rounds w) (drop_all i ps over) ∙ on_none inner m rounds w

-- a walk with no depth, and one with some
pub walk_zero : (d : ℕ) (ps : List Placed) (rounds : List ℕ) (w : Walk) → d ≡ 0 → walk d ps rounds w ≡ w
unfolding walk
walk_zero d ps rounds w e = ap (λ x. walk x ps rounds w) e

pub walk_some : (d e : ℕ) (ps : List Placed) (rounds : List ℕ) (w : Walk) → d ≡ suc e → walk d ps rounds w ≡ walk_on (walk e) 0 ps rounds w
unfolding walk
walk_some d e ps rounds w h = ap (λ x. walk x ps rounds w) h
