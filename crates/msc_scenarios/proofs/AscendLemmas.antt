-- The lists of the choices of all scenarios are in their order.
use Rattle.std.proofs.Common.{◌≡◌, inl, inr, ◌<◌, ◌≤◌, ℕ, zero, suc, ◌+◌, Bool, true, false, cond, List, [], ◌∷◌, ◌++◌, length, map, take, drop, refl, sym, subst, arith}
use Rattle.std.specs.List.{AllByRecursion}
use Rattle.std.proofs.lemmas.List.{append-nil}
use Rattle.msc_scenarios.specs.declared.path.Path.{Path}
use Rattle.msc_scenarios.specs.declared.steps.Passage.{Passage}
use Rattle.msc_scenarios.specs.declared.steps.Passage.TheVariants as passages
use Rattle.msc_mermaid.specs.declared.row.Kind.{Kind}
use Rattle.msc_mermaid.specs.declared.statement.Placed.{Placed}
use Rattle.msc_mermaid.specs.declared.statement.Statement.{Statement}
use Rattle.msc_mermaid.specs.declared.statement.Statement.TheVariants.{Declares, Says, Begins, Closes}
use Rattle.msc_scenarios.specs.Choosing.{Chooser, behind, block, by_branches, by_fate, by_options, by_rounds, by_sides, choose, choose_on, chosen, formed, goes_on, healed, joined, one, repeated, straight, under, with_end}
use Rattle.msc_scenarios.specs.Steps.{branch_at, branches_in, extent, passage_of, is_choice, is_there, owned_by}
use Rattle.msc_scenarios.specs.Laws.{ComesBefore, InOrder}
use Rattle.msc_scenarios.proofs.ChoiceLemmas as choices
use Rattle.msc_scenarios.proofs.FollowListLemmas.{all_map, all_same}
use Rattle.msc_place.proofs.Walks.{AllByRecursion-append as all_append}

-- lists of choices with the same in front, or with more behind
before_front : (cs xs ys : List ℕ) → ComesBefore xs ys → ComesBefore (cs ++ xs) (cs ++ ys)
before_front [] xs ys h = h
before_front (c ∷ cs) xs ys h = inr (refl, before_front cs xs ys h)

before_more : (xs ys us vs : List ℕ) → ComesBefore xs ys → ComesBefore (xs ++ us) (ys ++ vs)
before_more [] ys us vs h = absurd h
before_more (x ∷ xs) [] us vs h = absurd h
before_more (x ∷ xs) (y ∷ ys) us vs (inl h) = inl h
before_more (x ∷ xs) (y ∷ ys) us vs (inr h) = inr (h.0, before_more xs ys us vs h.1)

-- paths by their choices
abbrev pub Sooner : Path → Path → Type 0
Sooner w v = ComesBefore w.choices v.choices

abbrev pub Ordered : List Path → Type 0
Ordered ws = InOrder Sooner ws

order_map : {X Y : Type 0} (R : X → X → Type 0) (S : Y → Y → Type 0) (f : X → Y) → ((x y : X) → R x y → S (f x) (f y)) → (xs : List X) → InOrder R xs → InOrder S (map f xs)
order_map R S f e [] h = tt
order_map R S f e (x ∷ xs) h = (all_map (R x) (S (f x)) f (e x) xs h.0, order_map R S f e xs h.1)

order_append : (ws vs : List Path) → Ordered ws → Ordered vs → AllByRecursion (λ w. AllByRecursion (Sooner w) vs) ws → Ordered (ws ++ vs)
order_append [] vs h k all = k
order_append (w ∷ ws) vs h k all = (all_append (Sooner w) ws vs h.0 all.0, order_append ws vs h.1 k all.1)

units : (vs : List Path) → AllByRecursion (λ v. Unit {0}) vs
units [] = tt
units (v ∷ vs) = (tt, units vs)

-- what begins with a path's choices
abbrev Extends : Path → Path → Type 0
Extends w u = (us : List ℕ) × (u.choices ≡ w.choices ++ us)

module _ (vs : List Path) (w : Path) where
  extended_by : (b : Bool) → AllByRecursion (Extends w) (cond b (w ∷ []) (map (joined w) vs))
  extended_by true = (([], sym (append-nil w.choices)), tt)
  extended_by false = all_map (λ v. Unit {0}) (Extends w) (joined w) (λ v h. (v.choices, refl)) vs (units vs)

  ordered_by : Ordered vs → (b : Bool) → Ordered (cond b (w ∷ []) (map (joined w) vs))
  ordered_by h true = (tt, tt)
  ordered_by h false = order_map Sooner Sooner (joined w) (λ u v k. before_front w.choices u.choices v.choices k) vs h

-- from a path on: what comes behind it, whatever it goes on with
abbrev Past : Path → Path → Type 0
Past w u = (us : List ℕ) → ComesBefore (w.choices ++ us) u.choices

past_one : (w v u : Path) → Sooner w v → Extends v u → Past w u
past_one w v u h e = λ us. subst (ComesBefore (w.choices ++ us)) (sym e.1) (before_more w.choices v.choices us e.0 h)

module _ (vs : List Path) where
  past_all : (w : Path) (ws : List Path) → AllByRecursion (Sooner w) ws → AllByRecursion (Past w) (behind ws vs)
  past_all w [] h = tt
  past_all w (v ∷ ws) h =
      all_append (Past w) (goes_on vs v) (behind ws vs) (all_same (Extends v) (Past w) (λ u e. past_one w v u h.0 e) (goes_on vs v) (extended_by vs v v.broken)) (past_all w ws h.1)

  sooner_than : (w x : Path) (us : List Path) → Extends w x → AllByRecursion (Past w) us → AllByRecursion (Sooner x) us
  sooner_than w x us e h = all_same (Past w) (Sooner x) (λ u k. subst (λ cs. ComesBefore cs u.choices) (sym e.1) (k e.0)) us h

  pub order_behind : Ordered vs → (ws : List Path) → Ordered ws → Ordered (behind ws vs)
  order_behind k [] h = tt
  order_behind k (w ∷ ws) h =
      let rest = behind ws vs in
      let apart = all_same (Extends w) (λ x. AllByRecursion (Sooner x) rest) (λ x e. sooner_than w x rest e (past_all w ws h.0)) (goes_on vs w) (extended_by vs w w.broken) in
      order_append (goes_on vs w) rest (ordered_by vs w k w.broken) (order_behind k ws h.1) apart

-- behind one choice, and then behind greater ones
abbrev From : ℕ → Path → Type 0
From c w = (d : ℕ) × (c ≤ d) × (cs : List ℕ) × (w.choices ≡ d ∷ cs)

module _ (c : ℕ) (b : Bool) (ws : List Path) where
  order_chosen : Ordered ws → Ordered (chosen c b ws)
  order_chosen h = order_map Sooner Sooner (under c b) (λ u v k. inr (refl, k)) ws h

  from_chosen : (m : ℕ) → m ≤ c → AllByRecursion (From m) (chosen c b ws)
  from_chosen m h = all_map (λ v. Unit {0}) (From m) (under c b) (λ v k. (c, h, v.choices, refl)) ws (units ws)

  sooner_chosen : (w : Path) (u : Path) → From (c + 1) u → Sooner (under c b w) u
  sooner_chosen w u k = let less : c < k.0 = omega (arith, k.1) in subst (ComesBefore (c ∷ w.choices)) (sym k.3) (inl less)

  order_then : (rest : List Path) → Ordered ws → Ordered rest → AllByRecursion (From (c + 1)) rest → Ordered (chosen c b ws ++ rest)
  order_then rest h k more =
      let apart = all_map (λ v. Unit {0}) (λ x. AllByRecursion (Sooner x) rest) (under c b) (λ w e. all_same (From (c + 1)) (Sooner (under c b w)) (sooner_chosen w) rest more) ws (units ws) in
      order_append (chosen c b ws) rest (order_chosen h) k apart

from_more : (c : ℕ) (ws : List Path) → AllByRecursion (From (c + 1)) ws → AllByRecursion (From c) ws
from_more c ws h = all_same (From (c + 1)) (From c) (λ w k. (k.0, omega (arith, k.1), k.2, k.3)) ws h

order_straight : Ordered straight
order_straight = (tt, tt)

order_healed : (ws : List Path) → Ordered ws → Ordered (healed ws)
order_healed ws h = order_map Sooner Sooner (with_end false) (λ u v k. k) ws h

-- rounds of a loop
module _ (body : List Path) (h : Ordered body) where
  order_repeated : (n : ℕ) (ws : List Path) → Ordered ws → Ordered (repeated body n ws)
  order_repeated zero ws k = subst Ordered (sym (choices.repeated_none body 0 ws refl)) k
  order_repeated (suc n) ws k = subst Ordered (sym (choices.repeated_more body (suc n) n ws refl)) (order_repeated n (behind ws body) (order_behind body h ws k))

  from_rounds : (c : ℕ) (rs : List ℕ) → AllByRecursion (λ r. c < r) rs → AllByRecursion (From (c + 1)) (by_rounds body rs)
  from_rounds c [] k = subst (AllByRecursion (From (c + 1))) (sym (choices.rounds_none body)) tt
  from_rounds c (r ∷ rs) k =
      let found = repeated body r straight in
      subst (AllByRecursion (From (c + 1))) (sym (choices.rounds_cons body r rs)) (all_append (From (c + 1)) (chosen r false found) (by_rounds body rs) (from_chosen r false found (c + 1) (omega (arith, k.0))) (from_rounds c rs k.1))

  order_rounds : (rs : List ℕ) → InOrder (λ m n. m < n) rs → Ordered (by_rounds body rs)
  order_rounds [] k = subst Ordered (sym (choices.rounds_none body)) tt
  order_rounds (r ∷ rs) k =
      let found = repeated body r straight in
      subst Ordered (sym (choices.rounds_cons body r rs)) (order_then r false found (by_rounds body rs) (order_repeated r straight order_straight) (order_rounds rs k.1) (from_rounds r rs k.0))

-- an arrow that is lost or arrives
order_fate : Ordered by_fate
order_fate =
    order_then 0 false straight (chosen 1 false straight) order_straight (order_chosen 1 false straight order_straight) (from_chosen 1 false straight 1 (omega arith))

-- branches, each of whose paths are in order
module _ (inner : Chooser) (same : (b : List Placed) → Ordered (inner b)) where
  module _ (first : List Path) where
    from_branches : (c : ℕ) (bs : List (List Placed)) → AllByRecursion (From c) (by_branches inner first c bs)
    from_branches c [] = subst (AllByRecursion (From c)) (sym (choices.branches_none inner first c)) tt
    from_branches c (b ∷ bs) =
        let found = behind first (inner b) in let rest = by_branches inner first (c + 1) bs in
        subst (AllByRecursion (From c)) (sym (choices.branches_cons inner first c b bs)) (all_append (From c) (chosen c false found) rest (from_chosen c false found c (omega arith)) (from_more c rest (from_branches (c + 1) bs)))

    order_branches : Ordered first → (c : ℕ) (bs : List (List Placed)) → Ordered (by_branches inner first c bs)
    order_branches h c [] = subst Ordered (sym (choices.branches_none inner first c)) tt
    order_branches h c (b ∷ bs) =
        let found = behind first (inner b) in let rest = by_branches inner first (c + 1) bs in
        subst Ordered (sym (choices.branches_cons inner first c b bs)) (order_then c false found rest (order_behind (inner b) (same b) first h) (order_branches h (c + 1) bs) (from_branches (c + 1) bs))

    order_options : Ordered first → (bs : List (List Placed)) → Ordered (by_options inner first bs)
    order_options h bs = order_then 0 false first (by_branches inner first 1 bs) h (order_branches h 1 bs) (from_branches 1 bs)

  order_sides : (bs : List (List Placed)) (ws : List Path) → Ordered ws → Ordered (by_sides inner bs ws)
  order_sides [] ws h = subst Ordered (sym (choices.sides_none inner ws)) h
  order_sides (b ∷ bs) ws h =
      let vs = healed (inner b) in
      subst Ordered (sym (choices.sides_cons inner b bs ws)) (order_sides bs (behind ws vs) (order_behind vs (order_healed (inner b) (same b)) ws h))

  module _ (rounds : List ℕ) (rising : InOrder (λ m n. m < n) rounds) where
    order_formed : (passage : Passage) (bs : List (List Placed)) → Ordered (formed inner rounds passage bs)
    unfolding formed
    order_formed passages.OneOf bs = order_branches straight order_straight 0 bs
    order_formed passages.Maybe bs = order_options straight order_straight bs
    order_formed passages.Rounds bs = order_rounds (inner (branch_at bs 0)) (same (branch_at bs 0)) rounds rising
    order_formed passages.Break bs =
        let ws = inner (branch_at bs 0) in
        order_then 0 false straight (chosen 1 true ws) order_straight (order_chosen 1 true ws (same (branch_at bs 0))) (from_chosen 1 true ws 1 (omega arith))
    order_formed passages.First bs = order_options (inner (branch_at bs 0)) (same (branch_at bs 0)) (drop 1 bs)
    order_formed passages.Par bs = order_sides bs straight order_straight
    order_formed passages.Plain bs = same (branch_at bs 0)

    order_block : (kind : Kind) (inside : List Placed) (ws : List Path) → Ordered ws → Ordered (block inner rounds kind inside ws)
    unfolding block
    order_block kind inside ws h =
        let bs = branches_in 0 inside in let passage = passage_of kind (length bs) in let found = formed inner rounds passage bs in
        elim (is_there kind inside) as (λ t. Ordered (cond t (behind ws found) ws)) [
          | true ↦ order_behind found (order_formed passage bs) ws h
          | false ↦ h
        ]

    order_one : (s : Statement) (ps : List Placed) (ws : List Path) → Ordered ws → Ordered (one inner rounds s ps ws)
    order_one (Begins kind) ps ws h = order_block kind (take (extent 0 ps) ps) ws h
    order_one (Declares ident shown) ps ws h = h
    order_one (Says arrow) ps ws h =
        elim (is_choice arrow) as (λ t. Ordered (cond t (behind ws by_fate) ws)) [
          | true ↦ order_behind by_fate order_fate ws h
          | false ↦ h
        ]
    order_one (Closes closer) ps ws h = h

    order_on : (n : ℕ) (ps : List Placed) (ws : List Path) → Ordered ws → Ordered (choose_on inner rounds n ps ws)
    order_on n [] ws h = subst Ordered (sym (choices.on_none inner rounds n ws)) h
    order_on (suc n) (p ∷ ps) ws h = subst Ordered (sym (choices.on_skip inner rounds n p ps ws)) (order_on n ps ws h)
    order_on zero (p ∷ ps) ws h =
        subst Ordered (sym (choices.on_one inner rounds p ps ws)) (order_on (owned_by p.statement ps) ps (one inner rounds p.statement ps ws) (order_one p.statement ps ws h))

order_choose : (rounds : List ℕ) → InOrder (λ m n. m < n) rounds → (d : ℕ) (ps : List Placed) → Ordered (choose d rounds ps)
order_choose rounds rising zero ps = subst Ordered (sym (choices.choose_zero 0 rounds ps refl)) order_straight
order_choose rounds rising (suc d) ps =
    subst Ordered (sym (choices.choose_some (suc d) d rounds ps refl)) (order_on (choose d rounds) (order_choose rounds rising d) rounds rising 0 ps straight order_straight)

-- the lists of choices are in their order
pub in_order : (rounds : List ℕ) → InOrder (λ m n. m < n) rounds → (d : ℕ) (ps : List Placed) → InOrder ComesBefore (map (λ w. w.choices) (choose d rounds ps))
in_order rounds rising d ps =
    order_map Sooner ComesBefore (λ w. w.choices) (λ u v k. k) (choose d rounds ps) (order_choose rounds rising d ps)
