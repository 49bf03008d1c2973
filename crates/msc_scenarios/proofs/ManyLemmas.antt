-- There are as many lists of choices as are counted.
use Rattle.std.proofs.Common.{◌≡◌, ℕ, zero, suc, ◌+◌, ◌*◌, true, false, cond, List, [], ◌∷◌, ◌++◌, length, take, drop, map, refl, sym, ap, ◌∙◌, arith}
use Rattle.std.proofs.lemmas.List.{length-append, length-map}
use Rattle.std.proofs.Math.Nat.{mul-zero}
use Rattle.msc_scenarios.specs.declared.path.Path.{Path}
use Rattle.msc_scenarios.specs.declared.steps.Passage.{Passage}
use Rattle.msc_scenarios.specs.declared.steps.Passage.TheVariants as passages
use Rattle.msc_mermaid.specs.declared.row.Kind.{Kind}
use Rattle.msc_mermaid.specs.declared.statement.Placed.{Placed}
use Rattle.msc_mermaid.specs.declared.statement.Statement.{Statement}
use Rattle.msc_mermaid.specs.declared.statement.Statement.TheVariants.{Declares, Says, Begins, Closes}
use Rattle.msc_scenarios.specs.Steps.{branch_at, branches_in, extent, passage_of, is_choice, is_there, owned_by}
use Rattle.msc_scenarios.specs.Counting as counting
use Rattle.msc_scenarios.specs.Counting.{Counter, all, capped, plus, times, unbroken}
use Rattle.msc_scenarios.specs.Choosing as choosing
use Rattle.msc_scenarios.specs.Choosing.{Chooser, behind, by_fate, chosen, healed, straight}
use Rattle.msc_scenarios.proofs.CapLemmas.{plus_capped, times_capped}
use Rattle.msc_scenarios.proofs.CountLemmas as counts
use Rattle.msc_scenarios.proofs.ChoiceLemmas as choices
use Rattle.msc_scenarios.proofs.TallyLemmas.{pair, tally, through, broke, length_is, through_append, broke_append, through_behind, broke_behind, tally_behind, all_tally, tally_whole, chosen_whole, chosen_ended, length_chosen, healed_whole, length_healed}

alike : (m n : ℕ) → m ≡ n → capped m ≡ capped n
alike m n e = ap capped e

-- rounds of a loop
pub tally_repeated : (body : List Path) (n : ℕ) (ws : List Path) → tally (choosing.repeated body n ws) ≡ counting.repeated (tally body) n (tally ws)
tally_repeated body zero ws = ap tally (choices.repeated_none body 0 ws refl) ∙ sym (counts.repeated_none (tally body) 0 (tally ws) refl)
tally_repeated body (suc n) ws =
    ap tally (choices.repeated_more body (suc n) n ws refl)
    ∙ tally_repeated body n (behind ws body)
    ∙ ap (counting.repeated (tally body) n) (tally_behind ws body)
    ∙ sym (counts.repeated_more (tally body) (suc n) n (tally ws) refl)

-- some paths behind others: so many before them, and these
module _ (m c : ℕ) (ws vs : List Path) where
  put_more : plus (capped m) (capped (length ws)) ≡ capped (m + length ws)
  put_more = plus_capped m (length ws)

  length_put : (m + length ws) + length vs ≡ m + length (chosen c false ws ++ vs)
  length_put = omega (arith, length-append (chosen c false ws) vs, length_chosen c false ws)

  whole_put : broke vs ≡ 0 → broke (chosen c false ws ++ vs) ≡ 0
  whole_put none = omega (arith, broke_append (chosen c false ws) vs, chosen_whole c ws, none)

module _ (body : List Path) where
  round_all : (r : ℕ) → all (counting.repeated (tally body) r (unbroken 1)) ≡ capped (length (choosing.repeated body r straight))
  round_all r = ap all (sym (tally_repeated body r straight)) ∙ all_tally (choosing.repeated body r straight)

  tally_rounds : (rs : List ℕ) (m : ℕ) → counting.by_rounds (tally body) rs (capped m) ≡ capped (m + length (choosing.by_rounds body rs))
  tally_rounds [] m = counts.rounds_none (tally body) (capped m) ∙ alike m (m + length (choosing.by_rounds body [])) (omega (arith, ap length (choices.rounds_none body)))
  tally_rounds (r ∷ rs) m =
      let found = choosing.repeated body r straight in let rest = choosing.by_rounds body rs in
      counts.rounds_cons (tally body) r rs (capped m)
      ∙ ap (λ n. counting.by_rounds (tally body) rs (plus (capped m) n)) (round_all r)
      ∙ ap (counting.by_rounds (tally body) rs) (put_more m r found rest)
      ∙ tally_rounds rs (m + length found)
      ∙ ap capped (length_put m r found rest ∙ ap (λ x. m + length x) (sym (choices.rounds_cons body r rs)))

  whole_rounds : (rs : List ℕ) → broke (choosing.by_rounds body rs) ≡ 0
  whole_rounds [] = ap broke (choices.rounds_none body)
  whole_rounds (r ∷ rs) = ap broke (choices.rounds_cons body r rs) ∙ whole_put 0 r (choosing.repeated body r straight) (choosing.by_rounds body rs) (whole_rounds rs)

-- the paths through branches are counted so
module _ (inner : Chooser) (counter : Counter) (same : (b : List Placed) → tally (inner b) ≡ counter b) where
  branch_all : (first : List Path) (b : List Placed) → all (counting.behind (tally first) (counter b)) ≡ capped (length (behind first (inner b)))
  branch_all first b = ap (λ w. all (counting.behind (tally first) w)) (sym (same b)) ∙ ap all (sym (tally_behind first (inner b))) ∙ all_tally (behind first (inner b))

  module _ (first : List Path) where
    tally_branches : (c : ℕ) (bs : List (List Placed)) (m : ℕ) → counting.by_branches counter (tally first) bs (capped m) ≡ capped (m + length (choosing.by_branches inner first c bs))
    tally_branches c [] m = counts.branches_none counter (tally first) (capped m) ∙ alike m (m + length (choosing.by_branches inner first c [])) (omega (arith, ap length (choices.branches_none inner first c)))
    tally_branches c (b ∷ bs) m =
        let found = behind first (inner b) in let rest = choosing.by_branches inner first (c + 1) bs in
        counts.branches_cons counter (tally first) b bs (capped m)
        ∙ ap (λ n. counting.by_branches counter (tally first) bs (plus (capped m) n)) (branch_all first b)
        ∙ ap (counting.by_branches counter (tally first) bs) (put_more m c found rest)
        ∙ tally_branches (c + 1) bs (m + length found)
        ∙ ap capped (length_put m c found rest ∙ ap (λ x. m + length x) (sym (choices.branches_cons inner first c b bs)))

    whole_branches : (c : ℕ) (bs : List (List Placed)) → broke (choosing.by_branches inner first c bs) ≡ 0
    whole_branches c [] = ap broke (choices.branches_none inner first c)
    whole_branches c (b ∷ bs) =
        ap broke (choices.branches_cons inner first c b bs) ∙ whole_put 0 c (behind first (inner b)) (choosing.by_branches inner first (c + 1) bs) (whole_branches (c + 1) bs)

    tally_options : (bs : List (List Placed)) → tally (choosing.by_options inner first bs) ≡ unbroken (counting.by_branches counter (tally first) bs (all (tally first)))
    tally_options bs =
        let rest = choosing.by_branches inner first 1 bs in let paths = choosing.by_options inner first bs in
        let parts : length paths ≡ length first + length rest = omega (arith, length_put 0 0 first rest) in
        tally_whole paths (whole_put 0 0 first rest (whole_branches 1 bs))
        ∙ ap unbroken (ap capped parts ∙ sym (tally_branches 1 bs (length first)) ∙ ap (counting.by_branches counter (tally first) bs) (sym (all_tally first)))

  -- parallel branches
  length_side : (ws vs : List Path) → broke ws ≡ 0 → length (behind ws (healed vs)) ≡ length ws * length vs
  length_side ws vs none =
      let all_through : through ws ≡ length ws = omega (arith, length_is ws, none) in
      let all_healed : through (healed vs) ≡ length vs = omega (arith, length_is (healed vs), healed_whole vs, length_healed vs) in
      let on : through ws * broke (healed vs) ≡ 0 = ap (λ n. through ws * n) (healed_whole vs) ∙ mul-zero (through ws) in
      let product : through ws * through (healed vs) ≡ length ws * length vs = ap (λ n. n * through (healed vs)) all_through ∙ ap (λ n. length ws * n) all_healed in
      omega (arith, length_is (behind ws (healed vs)), through_behind ws (healed vs), broke_behind ws (healed vs), none, on, product)

  whole_side : (ws vs : List Path) → broke ws ≡ 0 → broke (behind ws (healed vs)) ≡ 0
  whole_side ws vs none = broke_behind ws (healed vs) ∙ ap (λ n. n + through ws * broke (healed vs)) none ∙ ap (λ n. 0 + through ws * n) (healed_whole vs) ∙ omega (arith, mul-zero (through ws))

  tally_sides : (bs : List (List Placed)) (ws : List Path) → broke ws ≡ 0 → tally (choosing.by_sides inner bs ws) ≡ unbroken (counting.by_sides counter bs (capped (length ws)))
  tally_sides [] ws none = ap tally (choices.sides_none inner ws) ∙ tally_whole ws none ∙ ap unbroken (sym (counts.sides_none counter (capped (length ws))))
  tally_sides (b ∷ bs) ws none =
      let vs = inner b in
      let more = ap (times (capped (length ws))) (ap all (sym (same b)) ∙ all_tally vs) ∙ times_capped (length ws) (length vs) ∙ ap capped (sym (length_side ws vs none)) in
      ap tally (choices.sides_cons inner b bs ws)
      ∙ tally_sides bs (behind ws (healed vs)) (whole_side ws vs none)
      ∙ ap unbroken (ap (counting.by_sides counter bs) (sym more) ∙ sym (counts.sides_cons counter b bs (capped (length ws))))

  module _ (rounds : List ℕ) where
    tally_formed : (passage : Passage) (bs : List (List Placed)) → tally (choosing.formed inner rounds passage bs) ≡ counting.formed counter rounds passage bs
    unfolding choosing.formed counting.formed
    tally_formed passages.OneOf bs =
        let paths = choosing.by_branches inner straight 0 bs in
        tally_whole paths (whole_branches straight 0 bs)
        ∙ ap unbroken (alike (length paths) (0 + length paths) (omega arith) ∙ sym (tally_branches straight 0 bs 0))
    tally_formed passages.Maybe bs = tally_options straight bs
    tally_formed passages.Rounds bs =
        let body = inner (branch_at bs 0) in let paths = choosing.by_rounds body rounds in
        tally_whole paths (whole_rounds body rounds)
        ∙ ap unbroken (alike (length paths) (0 + length paths) (omega arith) ∙ sym (tally_rounds body rounds 0) ∙ ap (λ w. counting.by_rounds w rounds 0) (same (branch_at bs 0)))
    tally_formed passages.Break bs =
        let ws = inner (branch_at bs 0) in
        let to_the_end : through (chosen 0 false straight ++ chosen 1 true ws) ≡ 1 = omega (arith, through_append (chosen 0 false straight) (chosen 1 true ws), chosen_ended 1 ws) in
        let to_a_break : broke (chosen 0 false straight ++ chosen 1 true ws) ≡ length ws = omega (arith, broke_append (chosen 0 false straight) (chosen 1 true ws), length_is (chosen 1 true ws), chosen_ended 1 ws, length_chosen 1 true ws) in
        pair (ap capped to_the_end) (ap capped to_a_break ∙ sym (all_tally ws) ∙ ap all (same (branch_at bs 0)))
    tally_formed passages.First bs =
        tally_options (inner (branch_at bs 0)) (drop 1 bs)
        ∙ ap (λ w. unbroken (counting.by_branches counter w (drop 1 bs) (all w))) (same (branch_at bs 0))
    tally_formed passages.Par bs = tally_sides bs straight refl
    tally_formed passages.Plain bs = same (branch_at bs 0)

    -- a statement that is no block adds no path
    on_straight : (ws : List Path) → tally ws ≡ counting.behind (tally ws) (unbroken 1)
    on_straight ws =
        let t = through ws in let b = broke ws in
        pair (alike t (t * 1) (omega arith) ∙ sym (times_capped t 1)) (alike b (b + t * 0) (omega arith) ∙ sym (plus_capped b (t * 0)) ∙ ap (plus (capped b)) (sym (times_capped t 0)))

    tally_block : (kind : Kind) (inside : List Placed) (ws : List Path) → tally (choosing.block inner rounds kind inside ws) ≡ counting.behind (tally ws) (counting.block counter rounds kind inside)
    unfolding choosing.block counting.block
    tally_block kind inside ws =
        let passage = passage_of kind (length (branches_in 0 inside)) in
        let found = choosing.formed inner rounds passage (branches_in 0 inside) in
        let number = counting.formed counter rounds passage (branches_in 0 inside) in
        elim (is_there kind inside) as (λ t. tally (cond t (behind ws found) ws) ≡ counting.behind (tally ws) (cond t number (unbroken 1))) [
          | true ↦ tally_behind ws found ∙ ap (counting.behind (tally ws)) (tally_formed passage (branches_in 0 inside))
          | false ↦ on_straight ws
        ]

    tally_one : (s : Statement) (ps : List Placed) (ws : List Path) → tally (choosing.one inner rounds s ps ws) ≡ counting.behind (tally ws) (counting.one counter rounds s ps)
    tally_one (Begins kind) ps ws = tally_block kind (take (extent 0 ps) ps) ws
    tally_one (Declares ident shown) ps ws = on_straight ws
    tally_one (Says arrow) ps ws =
        elim (is_choice arrow) as (λ t. tally (cond t (behind ws by_fate) ws) ≡ counting.behind (tally ws) (cond t (unbroken 2) (unbroken 1))) [
          | true ↦ tally_behind ws by_fate
          | false ↦ on_straight ws
        ]
    tally_one (Closes closer) ps ws = on_straight ws

    tally_on : (n : ℕ) (ps : List Placed) (ws : List Path) → tally (choosing.choose_on inner rounds n ps ws) ≡ counting.count_on counter rounds n ps (tally ws)
    tally_on n [] ws = ap tally (choices.on_none inner rounds n ws) ∙ sym (counts.on_none counter rounds n (tally ws))
    tally_on (suc n) (p ∷ ps) ws = ap tally (choices.on_skip inner rounds n p ps ws) ∙ tally_on n ps ws ∙ sym (counts.on_skip counter rounds n p ps (tally ws))
    tally_on zero (p ∷ ps) ws =
        let next = choosing.one inner rounds p.statement ps ws in
        ap tally (choices.on_one inner rounds p ps ws)
        ∙ tally_on (owned_by p.statement ps) ps next
        ∙ ap (counting.count_on counter rounds (owned_by p.statement ps) ps) (tally_one p.statement ps ws)
        ∙ sym (counts.on_one counter rounds p ps (tally ws))

-- the paths through statements are counted so
pub tally_choose : (d : ℕ) (rounds : List ℕ) (ps : List Placed) → tally (choosing.choose d rounds ps) ≡ counting.count d rounds ps
tally_choose zero rounds ps = ap tally (choices.choose_zero 0 rounds ps refl) ∙ sym (counts.count_zero 0 rounds ps refl)
tally_choose (suc d) rounds ps =
    ap tally (choices.choose_some (suc d) d rounds ps refl)
    ∙ tally_on (choosing.choose d rounds) (counting.count d rounds) (tally_choose d rounds) rounds 0 ps straight
    ∙ sym (counts.count_some (suc d) d rounds ps refl)

-- there are as many lists of choices as are counted
pub as_many : (d : ℕ) (rounds : List ℕ) (ps : List Placed) → capped (length (map (λ w. w.choices) (choosing.choose d rounds ps))) ≡ all (counting.count d rounds ps)
as_many d rounds ps =
    ap capped (length-map (choosing.choose d rounds ps) (λ w. w.choices)) ∙ sym (all_tally (choosing.choose d rounds ps)) ∙ ap all (tally_choose d rounds ps)
