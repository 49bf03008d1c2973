-- All paths through statements, one more at a time.
use Rattle.std.proofs.Common.{◌≡◌, ◌<◌, ◌≤◌, ℕ, zero, suc, ◌+◌, ◌==◌, true, false, List, [], ◌∷◌, ◌++◌, length, get_or, drop, map, refl, sym, ap, ◌∙◌, append_assoc, arith}
use Rattle.std.specs.List.{list_all}
use Rattle.std.proofs.lemmas.Bool.{and_parts}
use Rattle.std.proofs.lemmas.Bool.Decides.{nat_tests}
use Rattle.std.proofs.lemmas.List.{append-nil, drop_more, drop_all}
use Rattle.msc_scenarios.specs.declared.path.Path.{Path}
use Rattle.msc_mermaid.specs.declared.statement.Placed.{Placed}
use Rattle.msc_scenarios.specs.Steps.{owned_by}
use Rattle.msc_scenarios.specs.Choosing.{Chooser, behind, by_branches, by_rounds, by_sides, choose, choose_on, chosen, healed, one, repeated, straight}

-- one round more
pub repeated_more : (body : List Path) (m n : ℕ) (ws : List Path) → m ≡ suc n → repeated body m ws ≡ repeated body n (behind ws body)
unfolding repeated
repeated_more body m n ws e = ap (λ x. repeated body x ws) e

pub repeated_none : (body : List Path) (m : ℕ) (ws : List Path) → m ≡ 0 → repeated body m ws ≡ ws
unfolding repeated
repeated_none body m ws e = ap (λ x. repeated body x ws) e

-- one number of rounds more
pub rounds_cons : (body : List Path) (r : ℕ) (rs : List ℕ) → by_rounds body (r ∷ rs) ≡ chosen r false (repeated body r straight) ++ by_rounds body rs
unfolding by_rounds
rounds_cons body r rs = refl

pub rounds_none : (body : List Path) → by_rounds body [] ≡ []
unfolding by_rounds
rounds_none body = refl

module _ (body : List Path) (rs : List ℕ) (i : ℕ) (ws : List Path) where
  pub rounds_more : (d : ℕ) → i < length rs → ws ++ by_rounds body (drop i rs) ≡ (ws ++ chosen (get_or rs i d) false (repeated body (get_or rs i d) straight)) ++ by_rounds body (drop (i + 1) rs)
  rounds_more d inside =
      ap (λ x. ws ++ by_rounds body x) (drop_more rs i d inside) ∙ ap (λ x. ws ++ x) (rounds_cons body (get_or rs i d) (drop (i + 1) rs))
      ∙ sym (append_assoc ws (chosen (get_or rs i d) false (repeated body (get_or rs i d) straight)) (by_rounds body (drop (i + 1) rs)))

  pub rounds_end : length rs ≤ i → ws ++ by_rounds body (drop i rs) ≡ ws
  rounds_end over = ap (λ x. ws ++ by_rounds body x) (drop_all i rs over) ∙ ap (λ x. ws ++ x) (rounds_none body) ∙ append-nil ws

is_none : (r : ℕ) → (r == 0) ≡ true → r ≡ 0
is_none r h = grind (arith, nat_tests)

-- where loops go no round it is all the same what their body is
pub no_rounds : (rs : List ℕ) (ws vs : List Path) → list_all (λ r. r == 0) rs ≡ true → by_rounds ws rs ≡ by_rounds vs rs
no_rounds [] ws vs h = rounds_none ws ∙ sym (rounds_none vs)
no_rounds (r ∷ rs) ws vs h =
    let none : r ≡ 0 = is_none r (and_parts _ _ h).0 in
    rounds_cons ws r rs ∙ ap (λ x. chosen r false x ++ by_rounds ws rs) (repeated_none ws r straight none ∙ sym (repeated_none vs r straight none))
    ∙ ap (λ x. chosen r false (repeated vs r straight) ++ x) (no_rounds rs ws vs (and_parts _ _ h).1) ∙ sym (rounds_cons vs r rs)

-- one branch more
pub branches_cons : (inner : Chooser) (first : List Path) (c : ℕ) (b : List Placed) (bs : List (List Placed)) → by_branches inner first c (b ∷ bs) ≡ chosen c false (behind first (inner b)) ++ by_branches inner first (c + 1) bs
unfolding by_branches
branches_cons inner first c b bs = refl

pub branches_none : (inner : Chooser) (first : List Path) (c : ℕ) → by_branches inner first c [] ≡ []
unfolding by_branches
branches_none inner first c = refl

pub sides_cons : (inner : Chooser) (b : List Placed) (bs : List (List Placed)) (ws : List Path) → by_sides inner (b ∷ bs) ws ≡ by_sides inner bs (behind ws (healed (inner b)))
unfolding by_sides
sides_cons inner b bs ws = refl

pub sides_none : (inner : Chooser) (ws : List Path) → by_sides inner [] ws ≡ ws
unfolding by_sides
sides_none inner ws = refl

module _ {X : Type 0} (f : X → List Placed) (bs : List X) (i : ℕ) (inner : Chooser) (ws : List Path) where
  module _ (d : X) (inside : i < length bs) where
    pub branches_more : (first : List Path) (c : ℕ) → ws ++ by_branches inner first c (map f (drop i bs)) ≡ (ws ++ chosen c false (behind first (inner (f (get_or bs i d))))) ++ by_branches inner first (c + 1) (map f (drop (i + 1) bs))
    branches_more first c =
        ap (λ x. ws ++ by_branches inner first c (map f x)) (drop_more bs i d inside) ∙ ap (λ x. ws ++ x) (branches_cons inner first c (f (get_or bs i d)) (map f (drop (i + 1) bs)))
        ∙ sym (append_assoc ws (chosen c false (behind first (inner (f (get_or bs i d))))) (by_branches inner first (c + 1) (map f (drop (i + 1) bs))))

    pub sides_more : by_sides inner (map f (drop i bs)) ws ≡ by_sides inner (map f (drop (i + 1) bs)) (behind ws (healed (inner (f (get_or bs i d)))))
    sides_more = ap (λ x. by_sides inner (map f x) ws) (drop_more bs i d inside) ∙ sides_cons inner (f (get_or bs i d)) (map f (drop (i + 1) bs)) ws

  pub branches_end : (first : List Path) (c : ℕ) → length bs ≤ i → ws ++ by_branches inner first c (map f (drop i bs)) ≡ ws
  branches_end first c over = ap (λ x. ws ++ by_branches inner first c (map f x)) (drop_all i bs over) ∙ ap (λ x. ws ++ x) (branches_none inner first c) ∙ append-nil ws

  pub sides_end : length bs ≤ i → by_sides inner (map f (drop i bs)) ws ≡ ws
  sides_end over = ap (λ x. by_sides inner (map f x) ws) (drop_all i bs over) ∙ sides_none inner ws

-- one statement more
pub on_skip : (inner : Chooser) (rounds : List ℕ) (n : ℕ) (p : Placed) (ps : List Placed) (ws : List Path) → choose_on inner rounds (suc n) (p ∷ ps) ws ≡ choose_on inner rounds n ps ws
unfolding choose_on
on_skip inner rounds n p ps ws = refl

pub on_one : (inner : Chooser) (rounds : List ℕ) (p : Placed) (ps : List Placed) (ws : List Path) → choose_on inner rounds zero (p ∷ ps) ws ≡ choose_on inner rounds (owned_by p.statement ps) ps (one inner rounds p.statement ps ws)
unfolding choose_on
on_one inner rounds p ps ws = refl

pub on_none : (inner : Chooser) (rounds : List ℕ) (n : ℕ) (ws : List Path) → choose_on inner rounds n [] ws ≡ ws
unfolding choose_on
on_none inner rounds n ws = refl

module _ (inner : Chooser) (rounds : List ℕ) (ps : List Placed) (i m : ℕ) (ws : List Path) where
  module _ (q : Placed) (inside : i < length ps) where
    -- it belongs to one before it
    pub choose_skip : (n : ℕ) → m ≡ suc n → choose_on inner rounds m (drop i ps) ws ≡ choose_on inner rounds n (drop (i + 1) ps) ws
    choose_skip n e =
        ap (λ x. choose_on inner rounds x (drop i ps) ws) e ∙ ap (λ x. choose_on inner rounds (suc n) x ws) (drop_more ps i q inside) ∙ on_skip inner rounds n (get_or ps i q) (drop (i + 1) ps) ws

    pub choose_next : m ≡ 0 → choose_on inner rounds m (drop i ps) ws ≡ choose_on inner rounds (owned_by (get_or ps i q).statement (drop (i + 1) ps)) (drop (i + 1) ps) (one inner rounds (get_or ps i q).statement (drop (i + 1) ps) ws)
    choose_next e =
        ap (λ x. choose_on inner rounds x (drop i ps) ws) e ∙ ap (λ x. choose_on inner rounds zero x ws) (drop_more ps i q inside) ∙ on_one inner rounds (get_or ps i q) (drop (i + 1) ps) ws

  pub choose_end : length ps ≤ i → choose_on inner rounds m (drop i ps) ws ≡ ws
  choose_end over = ap (λ x. choose_on inner rounds m x ws) (drop_all i ps over) ∙ on_none inner rounds m ws

-- no depth, and some
pub choose_zero : (d : ℕ) (rounds : List ℕ) (ps : List Placed) → d ≡ 0 → choose d rounds ps ≡ straight
unfolding choose
choose_zero d rounds ps e = ap (λ x. choose x rounds ps) e

pub choose_some : (d e : ℕ) (rounds : List ℕ) (ps : List Placed) → d ≡ suc e → choose d rounds ps ≡ choose_on (choose e rounds) rounds 0 ps straight
unfolding choose
choose_some d e rounds ps h = ap (λ x. choose x rounds ps) h
