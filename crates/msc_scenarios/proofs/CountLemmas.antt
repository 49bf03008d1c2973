-- Paths through statements, one more at a time.
use Rattle.std.proofs.Common.{◌≡◌, ◌<◌, ◌≤◌, ℕ, zero, suc, ◌+◌, List, [], ◌∷◌, length, get_or, drop, map, refl, ap, ◌∙◌, arith}
use Rattle.std.proofs.lemmas.Bool.Decides.{nat_tests}
use Rattle.std.proofs.lemmas.List.{drop_more, drop_all}
use Rattle.msc_scenarios.specs.declared.TheConstants.{SCENARIO_LIMIT}
use Rattle.msc_scenarios.specs.declared.counting.Paths.{Paths}
use Rattle.msc_mermaid.specs.declared.statement.Placed.{Placed}
use Rattle.msc_scenarios.specs.Steps.{owned_by}
use Rattle.msc_scenarios.specs.Counting.{Counter, all, behind, by_branches, by_rounds, by_sides, count, count_on, one, plus, repeated, times, unbroken}

-- one round more
pub repeated_more : (body : Paths) (m n : ℕ) (w : Paths) → m ≡ suc n → repeated body m w ≡ repeated body n (behind w body)
unfolding repeated
repeated_more body m n w e = ap (λ x. repeated body x w) e

pub repeated_none : (body : Paths) (m : ℕ) (w : Paths) → m ≡ 0 → repeated body m w ≡ w
unfolding repeated
repeated_none body m w e = ap (λ x. repeated body x w) e

-- a round that changes nothing is the last one that does
pub repeated_still : (body : Paths) (m : ℕ) (w : Paths) → behind w body ≡ w → repeated body m w ≡ w
repeated_still body zero w e = repeated_none body 0 w refl
repeated_still body (suc m) w e = repeated_more body (suc m) m w refl ∙ ap (repeated body m) e ∙ repeated_still body m w e

-- one number of rounds more
pub rounds_cons : (body : Paths) (r : ℕ) (rs : List ℕ) (n : ℕ) → by_rounds body (r ∷ rs) n ≡ by_rounds body rs (plus n (all (repeated body r (unbroken 1))))
unfolding by_rounds
rounds_cons body r rs n = refl

pub rounds_none : (body : Paths) (n : ℕ) → by_rounds body [] n ≡ n
unfolding by_rounds
rounds_none body n = refl

past_limit : (n : ℕ) → plus (SCENARIO_LIMIT + 1) n ≡ SCENARIO_LIMIT + 1
past_limit n = grind (arith, nat_tests)

-- past the limit the number stays
pub rounds_past : (body : Paths) (rs : List ℕ) → by_rounds body rs (SCENARIO_LIMIT + 1) ≡ SCENARIO_LIMIT + 1
rounds_past body [] = rounds_none body (SCENARIO_LIMIT + 1)
rounds_past body (r ∷ rs) =
    rounds_cons body r rs (SCENARIO_LIMIT + 1) ∙ ap (by_rounds body rs) (past_limit (all (repeated body r (unbroken 1)))) ∙ rounds_past body rs

module _ (body : Paths) (rs : List ℕ) (i n : ℕ) where
  pub rounds_more : (d : ℕ) → i < length rs → by_rounds body (drop i rs) n ≡ by_rounds body (drop (i + 1) rs) (plus n (all (repeated body (get_or rs i d) (unbroken 1))))
  rounds_more d inside = ap (λ x. by_rounds body x n) (drop_more rs i d inside) ∙ rounds_cons body (get_or rs i d) (drop (i + 1) rs) n

  pub rounds_end : length rs ≤ i → by_rounds body (drop i rs) n ≡ n
  rounds_end over = ap (λ x. by_rounds body x n) (drop_all i rs over) ∙ rounds_none body n

-- one branch more
pub branches_cons : (inner : Counter) (first : Paths) (b : List Placed) (bs : List (List Placed)) (n : ℕ) → by_branches inner first (b ∷ bs) n ≡ by_branches inner first bs (plus n (all (behind first (inner b))))
unfolding by_branches
branches_cons inner first b bs n = refl

pub branches_none : (inner : Counter) (first : Paths) (n : ℕ) → by_branches inner first [] n ≡ n
unfolding by_branches
branches_none inner first n = refl

pub sides_cons : (inner : Counter) (b : List Placed) (bs : List (List Placed)) (n : ℕ) → by_sides inner (b ∷ bs) n ≡ by_sides inner bs (times n (all (inner b)))
unfolding by_sides
sides_cons inner b bs n = refl

pub sides_none : (inner : Counter) (n : ℕ) → by_sides inner [] n ≡ n
unfolding by_sides
sides_none inner n = refl

module _ {X : Type 0} (f : X → List Placed) (bs : List X) (i : ℕ) (inner : Counter) (n : ℕ) where
  module _ (d : X) (inside : i < length bs) where
    pub branches_more : (first : Paths) → by_branches inner first (map f (drop i bs)) n ≡ by_branches inner first (map f (drop (i + 1) bs)) (plus n (all (behind first (inner (f (get_or bs i d))))))
    branches_more first = ap (λ x. by_branches inner first (map f x) n) (drop_more bs i d inside) ∙ branches_cons inner first (f (get_or bs i d)) (map f (drop (i + 1) bs)) n

    pub sides_more : by_sides inner (map f (drop i bs)) n ≡ by_sides inner (map f (drop (i + 1) bs)) (times n (all (inner (f (get_or bs i d)))))
    sides_more = ap (λ x. by_sides inner (map f x) n) (drop_more bs i d inside) ∙ sides_cons inner (f (get_or bs i d)) (map f (drop (i + 1) bs)) n

  pub branches_end : (first : Paths) → length bs ≤ i → by_branches inner first (map f (drop i bs)) n ≡ n
  branches_end first over = ap (λ x. by_branches inner first (map f x) n) (drop_all i bs over) ∙ branches_none inner first n

  pub sides_end : length bs ≤ i → by_sides inner (map f (drop i bs)) n ≡ n
  sides_end over = ap (λ x. by_sides inner (map f x) n) (drop_all i bs over) ∙ sides_none inner n

-- one statement more
pub on_skip : (inner : Counter) (rounds : List ℕ) (n : ℕ) (p : Placed) (ps : List Placed) (w : Paths) → count_on inner rounds (suc n) (p ∷ ps) w ≡ count_on inner rounds n ps w
unfolding count_on
on_skip inner rounds n p ps w = refl

pub on_one : (inner : Counter) (rounds : List ℕ) (p : Placed) (ps : List Placed) (w : Paths) → count_on inner rounds zero (p ∷ ps) w ≡ count_on inner rounds (owned_by p.statement ps) ps (behind w (one inner rounds p.statement ps))
unfolding count_on
on_one inner rounds p ps w = refl

pub on_none : (inner : Counter) (rounds : List ℕ) (n : ℕ) (w : Paths) → count_on inner rounds n [] w ≡ w
unfolding count_on
on_none inner rounds n w = refl

module _ (inner : Counter) (rounds : List ℕ) (ps : List Placed) (i m : ℕ) (w : Paths) where
  module _ (q : Placed) (inside : i < length ps) where
    -- it belongs to one before it
    pub count_skip : (n : ℕ) → m ≡ suc n → count_on inner rounds m (drop i ps) w ≡ count_on inner rounds n (drop (i + 1) ps) w
    count_skip n e =
        ap (λ x. count_on inner rounds x (drop i ps) w) e ∙ ap (λ x. count_on inner rounds (suc n) x w) (drop_more ps i q inside) ∙ on_skip inner rounds n (get_or ps i q) (drop (i + 1) ps) w

    pub count_next : m ≡ 0 → count_on inner rounds m (drop i ps) w ≡ count_on inner rounds (owned_by (get_or ps i q).statement (drop (i + 1) ps)) (drop (i + 1) ps) (behind w (one inner rounds (get_or ps i q).statement (drop (i + 1) ps)))
    count_next e =
        ap (λ x. count_on inner rounds x (drop i ps) w) e ∙ ap (λ x. count_on inner rounds zero x w) (drop_more ps i q inside) ∙ on_one inner rounds (get_or ps i q) (drop (i + 1) ps) w

  pub count_end : length ps ≤ i → count_on inner rounds m (drop i ps) w ≡ w
  count_end over = ap (λ x. count_on inner rounds m x w) (drop_all i ps over) ∙ on_none inner rounds m w

-- no depth, and some
pub count_zero : (d : ℕ) (rounds : List ℕ) (ps : List Placed) → d ≡ 0 → count d rounds ps ≡ unbroken 1
unfolding count
count_zero d rounds ps e = ap (λ x. count x rounds ps) e

pub count_some : (d e : ℕ) (rounds : List ℕ) (ps : List Placed) → d ≡ suc e → count d rounds ps ≡ count_on (count e rounds) rounds 0 ps (unbroken 1)
unfolding count
count_some d e rounds ps h = ap (λ x. count x rounds ps) h
