-- The paths through statements are the histories of these.
use Rattle.std.proofs.Common.{◌≡◌, ◌⊎◌, inl, inr, ◌<◌, ℕ, zero, suc, ◌+◌, Bool, true, false, cond, List, [], ◌∷◌, ◌++◌, length, drop, map, take, refl, sym, ap, subst, eq-or-lt_of_le, arith}
use Rattle.std.specs.List.{AllByRecursion, Contains}
use Rattle.std.proofs.lemmas.Bool.{false≢true}
use Rattle.std.proofs.lemmas.List.{length-drop}
use Rattle.msc_mermaid.specs.declared.TheConstants.{DEPTH_LIMIT}
use Rattle.msc_place.specs.declared.position.Position.{Position}
use Rattle.msc_scenarios.specs.declared.path.Path.{Path}
use Rattle.msc_scenarios.specs.declared.steps.Passage.{Passage}
use Rattle.msc_scenarios.specs.declared.steps.Passage.TheVariants as passages
use Rattle.msc_scenarios.specs.declared.steps.Step.{Step}
use Rattle.msc_mermaid.specs.declared.row.Kind.{Kind}
use Rattle.msc_mermaid.specs.declared.statement.Arrow.{Arrow}
use Rattle.msc_mermaid.specs.declared.statement.Diagram.{Diagram}
use Rattle.msc_mermaid.specs.declared.statement.Placed.{Placed}
use Rattle.msc_mermaid.specs.declared.statement.Statement.{Statement}
use Rattle.msc_mermaid.specs.declared.statement.Statement.TheVariants.{Declares, Says, Begins, Closes}
use Rattle.msc_scenarios.specs.Choosing as choosing
use Rattle.msc_scenarios.specs.Choosing.{Chooser, all_choices, behind, by_branches, by_fate, by_rounds, by_sides, chosen, healed, repeated, straight}
use Rattle.msc_scenarios.specs.Steps.{branch_at, branches_in, extent, passage_of, is_choice, is_loss, is_there, owned_by, start_of}
use Rattle.msc_scenarios.specs.Histories.{Block, Branch, Formed, Histories, History, IsHistory, Made, One, OneOf, Only, Rounds, Row, Said, Sides, Then, Through, enclosed, marked, met, only, under}
use Rattle.msc_scenarios.proofs.ChoiceLemmas as choices
use Rattle.msc_scenarios.proofs.CoverLemmas.{Has, has_map}
use Rattle.msc_scenarios.proofs.CoverWalkLemmas.{from_place, to_place}
use Rattle.msc_scenarios.proofs.FollowBranchLemmas.{behind_it, here}
use Rattle.msc_scenarios.proofs.FollowListLemmas.{all_same}
use Rattle.msc_scenarios.proofs.HistoryLemmas.{Either, Is, Lists, Same, Told, lists_either, lists_marked, lists_none, lists_only, lists_same, lists_stepped, lists_then, lists_under, nothing_then, then_assoc, with_steps}

-- more rounds, more branches, more statements
pub round_one : (inner : Branch) (body : List Placed) (rs : List ℕ) (k n : ℕ) → Same (Then (inner (rs ++ (k + 1) ∷ []) body) (Rounds inner body rs (k + 1) n)) (Rounds inner body rs k (suc n))
unfolding Rounds
round_one inner body rs k n = record { there = λ h cut p. p; back = λ h cut p. p }

pub round_none : (inner : Branch) (body : List Placed) (rs : List ℕ) (k : ℕ) → Same (Only (only [])) (Rounds inner body rs k 0)
unfolding Rounds
round_none inner body rs k = record { there = λ h cut p. p; back = λ h cut p. p }

pub side_one : (inner : Branch) (rs : List ℕ) (b : List Placed) (bs : List (List Placed)) → Same (Then (Made marked false (inner rs b)) (Sides inner rs bs)) (Sides inner rs (b ∷ bs))
unfolding Sides
side_one inner rs b bs = record { there = λ h cut p. p; back = λ h cut p. p }

pub side_none : (inner : Branch) (rs : List ℕ) → Same (Only (only [])) (Sides inner rs [])
unfolding Sides
side_none inner rs = record { there = λ h cut p. p; back = λ h cut p. p }

module _ (lines : List (List ℕ)) (inner : Branch) (rounds rs : List ℕ) where
  pub row_none : (n : ℕ) → Same (Only (only [])) (Row lines inner rounds n [] rs)
  unfolding Row
  row_none n = record { there = λ h cut p. p; back = λ h cut p. p }

  pub row_skip : (n : ℕ) (p : Placed) (ps : List Placed) → Same (Row lines inner rounds n ps rs) (Row lines inner rounds (suc n) (p ∷ ps) rs)
  unfolding Row
  row_skip n p ps = record { there = λ h cut p. p; back = λ h cut p. p }

  pub row_one : (p : Placed) (ps : List Placed) → Same (Then (One lines inner rounds p p.statement ps rs) (Row lines inner rounds (owned_by p.statement ps) ps rs)) (Row lines inner rounds zero (p ∷ ps) rs)
  unfolding Row
  row_one p ps = record { there = λ h cut p. p; back = λ h cut p. p }

-- the same behind others, and one after the other
module _ (P Q R : Histories) (s : Same Q R) where
  on_there : (h : History) (cut : Bool) → Then P Q h cut → Then P R h cut
  on_there h cut (inl t) = inl t
  on_there h cut (inr t) = inr (t.0, t.1, t.2, t.3, s.there t.1 cut t.4)

  on_back : (h : History) (cut : Bool) → Then P R h cut → Then P Q h cut
  on_back h cut (inl t) = inl t
  on_back h cut (inr t) = inr (t.0, t.1, t.2, t.3, s.back t.1 cut t.4)

  same_then : Same (Then P Q) (Then P R)
  same_then = record { there = on_there; back = on_back }

-- behind paths of P stand those of Q, as nothing follows
module _ (P Q : Histories) (ws : List Path) where
  lists_more : Same (Only (only [])) Q → Lists ws P → Lists ws (Then P Q)
  lists_more s l = lists_same (Then P (Only (only []))) (Then P Q) ws (same_then P (Only (only [])) Q s) (lists_stepped P [] ws l)

  module _ (R S : Histories) (s : Same (Then Q R) S) where
    lists_moved : Lists ws (Then (Then P Q) R) → Lists ws (Then P S)
    lists_moved l = lists_same (Then P (Then Q R)) (Then P S) ws (same_then P (Then Q R) S s) (lists_same (Then (Then P Q) R) (Then P (Then Q R)) ws (then_assoc P Q R) l)

-- none before
lists_first : (P : Histories) (ws : List Path) → Lists ws (Then (Only (only [])) P) → Lists ws P
lists_first P ws l = lists_same (Then (Only (only [])) P) P ws (nothing_then P) l

module _ (chooser : Chooser) (inner : Branch) (alike : (rs : List ℕ) (b : List Placed) → Lists (chooser b) (inner rs b)) (rs : List ℕ) where
  -- rounds of a loop
  lists_repeated : (body : List Placed) (n k : ℕ) (P : Histories) (ws : List Path) → Lists ws P → Lists (repeated (chooser body) n ws) (Then P (Rounds inner body rs k n))
  lists_repeated body zero k P ws l =
      subst (λ vs. Lists vs (Then P (Rounds inner body rs k 0))) (sym (choices.repeated_none (chooser body) 0 ws refl)) (lists_more P (Rounds inner body rs k 0) ws (round_none inner body rs k) l)
  lists_repeated body (suc n) k P ws l =
      let B = inner (rs ++ (k + 1) ∷ []) body in let more = behind ws (chooser body) in
      let next = lists_repeated body n (k + 1) (Then P B) more (lists_then P B (chooser body) (alike (rs ++ (k + 1) ∷ []) body) ws l) in
      subst (λ vs. Lists vs (Then P (Rounds inner body rs k (suc n)))) (sym (choices.repeated_more (chooser body) (suc n) n ws refl)) (lists_moved P B (repeated (chooser body) n more) (Rounds inner body rs (k + 1) n) (Rounds inner body rs k (suc n)) (round_one inner body rs k n) next)

  lists_round : (body : List Placed) (r : ℕ) → Lists (chosen r false (repeated (chooser body) r straight)) (Made (under r) false (Rounds inner body rs 0 r))
  lists_round body r =
      let found = repeated (chooser body) r straight in let R = Rounds inner body rs 0 r in
      lists_under R found (lists_first R found (lists_repeated body r 0 (Only (only [])) straight (lists_only []))) r false

  abbrev ByRounds : List Placed → List ℕ → Histories
  ByRounds body rounds h cut = (r : ℕ) × Has (λ s. s ≡ r) rounds × Made (under r) false (Rounds inner body rs 0 r) h cut

  module _ (body : List Placed) (s : ℕ) (rounds : List ℕ) where
    rounds_there : (h : History) (cut : Bool) → Either (Made (under s) false (Rounds inner body rs 0 s)) (ByRounds body rounds) h cut → ByRounds body (s ∷ rounds) h cut
    rounds_there h cut (inl m) = (s, inl refl, m)
    rounds_there h cut (inr m) = (m.0, inr m.1, m.2)

    rounds_from : (h : History) (cut : Bool) (r : ℕ) → Has (λ t. t ≡ r) (s ∷ rounds) → Made (under r) false (Rounds inner body rs 0 r) h cut → Either (Made (under s) false (Rounds inner body rs 0 s)) (ByRounds body rounds) h cut
    rounds_from h cut r (inl e) m = inl (subst (λ t. Made (under t) false (Rounds inner body rs 0 t) h cut) (sym e) m)
    rounds_from h cut r (inr k) m = inr (r, k, m)

    rounds_same : Same (Either (Made (under s) false (Rounds inner body rs 0 s)) (ByRounds body rounds)) (ByRounds body (s ∷ rounds))
    rounds_same = record { there = rounds_there; back = λ h cut m. rounds_from h cut m.0 m.1 m.2 }

  lists_rounds : (body : List Placed) (rounds : List ℕ) → Lists (by_rounds (chooser body) rounds) (ByRounds body rounds)
  lists_rounds body [] = subst (λ vs. Lists vs (ByRounds body [])) (sym (choices.rounds_none (chooser body))) (lists_none (ByRounds body []) (λ h cut m. m.1))
  lists_rounds body (s ∷ rounds) =
      let first = chosen s false (repeated (chooser body) s straight) in let rest = by_rounds (chooser body) rounds in
      let M = Made (under s) false (Rounds inner body rs 0 s) in
      subst (λ vs. Lists vs (ByRounds body (s ∷ rounds))) (sym (choices.rounds_cons (chooser body) s rounds))
      (lists_same (Either M (ByRounds body rounds)) (ByRounds body (s ∷ rounds)) (first ++ rest) (rounds_same body s rounds) (lists_either M (ByRounds body rounds) first rest (lists_round body s) (lists_rounds body rounds)))

  -- parallel branches
  lists_sides : (bs : List (List Placed)) (P : Histories) (ws : List Path) → Lists ws P → Lists (by_sides chooser bs ws) (Then P (Sides inner rs bs))
  lists_sides [] P ws l = subst (λ vs. Lists vs (Then P (Sides inner rs []))) (sym (choices.sides_none chooser ws)) (lists_more P (Sides inner rs []) ws (side_none inner rs) l)
  lists_sides (b ∷ bs) P ws l =
      let M = Made marked false (inner rs b) in let vs = healed (chooser b) in let more = behind ws vs in
      let next = lists_sides bs (Then P M) more (lists_then P M vs (lists_marked (inner rs b) (chooser b) (alike rs b)) ws l) in
      subst (λ us. Lists us (Then P (Sides inner rs (b ∷ bs)))) (sym (choices.sides_cons chooser b bs ws)) (lists_moved P M (by_sides chooser bs more) (Sides inner rs bs) (Sides inner rs (b ∷ bs)) (side_one inner rs b bs) next)

  -- one of the branches behind the first paths
  module _ (all : List (List Placed)) (first : List Path) (F : Histories) (firsts : Lists first F) (more : ℕ) where
    abbrev By : ℕ → Histories
    By i = Made (under (i + more)) false (Then F (inner rs (branch_at all i)))

    abbrev From : ℕ → Histories
    From k = OneOf inner all rs F k more

    lists_branch : (k : ℕ) (b : List Placed) → branch_at all k ≡ b → Lists (chosen (k + more) false (behind first (chooser b))) (By k)
    lists_branch k b e =
        let B = inner rs (branch_at all k) in
        subst (λ x. Lists (chosen (k + more) false (behind first (chooser x))) (By k)) e (lists_under (Then F B) (behind first (chooser (branch_at all k))) (lists_then F B (chooser (branch_at all k)) (alike rs (branch_at all k)) first firsts) (k + more) false)

    module _ (k : ℕ) (within : k < length all) where
      from_there : (h : History) (cut : Bool) → Either (By k) (From (k + 1)) h cut → From k h cut
      from_there h cut (inl m) = (k, omega arith, within, m)
      from_there h cut (inr m) = let least = m.1 in (m.0, omega (arith, least), m.2, m.3)

      from_by : (h : History) (cut : Bool) (i : ℕ) → (k ≡ i) ⊎ (k < i) → i < length all → By i h cut → Either (By k) (From (k + 1)) h cut
      from_by h cut i (inl e) inside m = inl (subst (λ j. By j h cut) (sym e) m)
      from_by h cut i (inr less) inside m = inr (i, omega (arith, less), inside, m)

      from_same : Same (Either (By k) (From (k + 1))) (From k)
      from_same = record { there = from_there; back = λ h cut m. from_by h cut m.0 (eq-or-lt_of_le m.1) m.2 m.3 }

    lists_branches : (rest : List (List Placed)) (k : ℕ) → drop k all ≡ rest → Lists (by_branches chooser first (k + more) rest) (From k)
    lists_branches [] k left =
        subst (λ vs. Lists vs (From k)) (sym (choices.branches_none chooser first (k + more)))
        (lists_none (From k) (λ h cut m. let least = m.1 in let inside = m.2 in omega (arith, least, inside, length-drop k all, ap length left)))
    lists_branches (b ∷ rest) k left =
        let within : k < length all = omega (arith, length-drop k all, ap length left) in
        let next : (k + 1) + more ≡ (k + more) + 1 = omega arith in
        let these = chosen (k + more) false (behind first (chooser b)) in let those = by_branches chooser first ((k + more) + 1) rest in
        let later : Lists those (From (k + 1)) = subst (λ n. Lists (by_branches chooser first n rest) (From (k + 1))) next (lists_branches rest (k + 1) (behind_it all k b rest left)) in
        subst (λ vs. Lists vs (From k)) (sym (choices.branches_cons chooser first (k + more) b rest))
        (lists_same (Either (By k) (From (k + 1))) (From k) (these ++ those) (from_same k within) (lists_either (By k) (From (k + 1)) these those (lists_branch k b (here all k b rest left)) later))

  -- blocks
  module _ (rounds : List ℕ) (place : Position) (bs : List (List Placed)) where
    loop_there : (h : History) (cut : Bool) → ByRounds (branch_at bs 0) rounds h cut → Formed inner rounds place passages.Rounds bs rs h cut
    unfolding Formed
    loop_there h cut m = (m.0, to_place rounds m.0 m.1, m.2)

    loop_back : (h : History) (cut : Bool) → Formed inner rounds place passages.Rounds bs rs h cut → ByRounds (branch_at bs 0) rounds h cut
    unfolding Formed
    loop_back h cut m = (m.0, (let k = m.1 in from_place rounds m.0 k.0 k.1 k.2), m.2)

    lists_par : Lists (by_sides chooser bs straight) (Formed inner rounds place passages.Par bs rs)
    unfolding Formed
    lists_par =
        let S = Sides inner rs bs in let ws = by_sides chooser bs straight in
        let l = lists_first S ws (lists_sides bs (Only (only [])) straight (lists_only [])) in
        record {
          each = all_same (Told S) (Told (λ h cut. (x : History) × (h ≡ enclosed place x) × S x cut)) (λ w t. ((enclosed place (with_steps w t.0)).steps, (with_steps w t.0, refl, t.1))) ws l.each;
          all = λ h cut m. subst (λ (cs : List ℕ). Has (λ (w : Path). (w.choices ≡ cs) × (w.broken ≡ cut)) ws) (sym (ap (λ (x : History). x.choices) m.1)) (l.all m.0 cut m.2);
        }

    pub lists_formed : (passage : Passage) → Lists (choosing.formed chooser rounds passage bs) (Formed inner rounds place passage bs rs)
    unfolding choosing.formed Formed
    lists_formed passages.OneOf = lists_branches bs straight (Only (only [])) (lists_only []) 0 bs 0 refl
    lists_formed passages.Maybe =
        lists_either (Made (under 0) false (Only (only []))) (OneOf inner bs rs (Only (only [])) 0 1) (chosen 0 false straight) (by_branches chooser straight 1 bs) (lists_under (Only (only [])) straight (lists_only []) 0 false) (lists_branches bs straight (Only (only [])) (lists_only []) 1 bs 0 refl)
    lists_formed passages.Rounds =
        lists_same (ByRounds (branch_at bs 0) rounds) (Formed inner rounds place passages.Rounds bs rs) (by_rounds (chooser (branch_at bs 0)) rounds) (record { there = loop_there; back = loop_back }) (lists_rounds (branch_at bs 0) rounds)
    lists_formed passages.Break =
        let b = branch_at bs 0 in
        lists_either (Made (under 0) false (Only (only []))) (Made (under 1) true (inner rs b)) (chosen 0 false straight) (chosen 1 true (chooser b)) (lists_under (Only (only [])) straight (lists_only []) 0 false) (lists_under (inner rs b) (chooser b) (alike rs b) 1 true)
    lists_formed passages.First =
        let b = branch_at bs 0 in
        lists_either (Made (under 0) false (inner rs b)) (OneOf inner bs rs (inner rs b) 1 0) (chosen 0 false (chooser b)) (by_branches chooser (chooser b) 1 (drop 1 bs)) (lists_under (inner rs b) (chooser b) (alike rs b) 0 false) (lists_branches bs (chooser b) (inner rs b) (alike rs b) 0 (drop 1 bs) 1 refl)
    lists_formed passages.Par = lists_par
    lists_formed passages.Plain = alike rs (branch_at bs 0)

  module _ (lines : List (List ℕ)) (rounds : List ℕ) (P : Histories) (ws : List Path) (l : Lists ws P) where
    -- a test tells which histories there are
    abbrev Tested : Bool → Histories → List Step → Histories
    Tested t Q ss h cut = ((t ≡ true) × Q h cut) ⊎ ((t ≡ false) × Only (only ss) h cut)

    module _ (Q : Histories) (ss : List Step) where
      true_back : (h : History) (cut : Bool) → Tested true Q ss h cut → Q h cut
      true_back h cut (inl q) = q.1
      true_back h cut (inr q) = absurd (false≢true (sym q.0))

      false_back : (h : History) (cut : Bool) → Tested false Q ss h cut → Only (only ss) h cut
      false_back h cut (inl q) = absurd (false≢true q.0)
      false_back h cut (inr q) = q.1

      lists_tested : (t : Bool) (vs : List Path) → Lists vs Q → Lists (cond t (behind ws vs) ws) (Then P (Tested t Q ss))
      lists_tested true vs k =
          lists_same (Then P Q) (Then P (Tested true Q ss)) (behind ws vs) (same_then P Q (Tested true Q ss) (record { there = λ h cut q. inl (refl, q); back = true_back })) (lists_then P Q vs k ws l)
      lists_tested false vs k =
          lists_same (Then P (Only (only ss))) (Then P (Tested false Q ss)) ws (same_then P (Only (only ss)) (Tested false Q ss) (record { there = λ h cut q. inr (refl, q); back = false_back })) (lists_stepped P ss ws l)

    lists_block : (place : Position) (kind : Kind) (inside : List Placed) → Lists (choosing.block chooser rounds kind inside ws) (Then P (Block inner rounds place kind inside rs))
    unfolding choosing.block
    lists_block place kind inside =
        let bs = branches_in 0 inside in let passage = passage_of kind (length bs) in
        lists_tested (Formed inner rounds place passage bs rs) [] (is_there kind inside) (choosing.formed chooser rounds passage bs) (lists_formed rounds place bs passage)

    lists_said : (p : Placed) (a : Arrow) → Lists (cond (is_choice a) (behind ws by_fate) ws) (Then P (Said lines p a rs))
    lists_said p a =
        let lost = Only (met lines p a true rs) in let arrives = Only (met lines p a false rs) in
        let fates = lists_either (Made (under 0) false lost) (Made (under 1) false arrives) (chosen 0 false straight) (chosen 1 false straight) (lists_under lost straight (lists_only (met lines p a true rs).steps) 0 false) (lists_under arrives straight (lists_only (met lines p a false rs).steps) 1 false) in
        lists_tested (Either (Made (under 0) false lost) (Made (under 1) false arrives)) (met lines p a (is_loss a.fate) rs).steps (is_choice a) by_fate fates

    lists_one : (p : Placed) (s : Statement) (ps : List Placed) → Lists (choosing.one chooser rounds s ps ws) (Then P (One lines inner rounds p s ps rs))
    lists_one p (Begins kind) ps = lists_block (start_of p) kind (take (extent 0 ps) ps)
    lists_one p (Says arrow) ps = lists_said p arrow
    lists_one p (Declares ident shown) ps = lists_stepped P [] ws l
    lists_one p (Closes closer) ps = lists_stepped P [] ws l

  lists_row : (lines : List (List ℕ)) (rounds : List ℕ) (n : ℕ) (ps : List Placed) (P : Histories) (ws : List Path) → Lists ws P → Lists (choosing.choose_on chooser rounds n ps ws) (Then P (Row lines inner rounds n ps rs))
  lists_row lines rounds n [] P ws l =
      let R = Row lines inner rounds n [] rs in
      subst (λ vs. Lists vs (Then P R)) (sym (choices.on_none chooser rounds n ws)) (lists_more P R ws (row_none lines inner rounds rs n) l)
  lists_row lines rounds (suc n) (p ∷ ps) P ws l =
      let Q = Row lines inner rounds n ps rs in let R = Row lines inner rounds (suc n) (p ∷ ps) rs in
      subst (λ vs. Lists vs (Then P R)) (sym (choices.on_skip chooser rounds n p ps ws)) (lists_same (Then P Q) (Then P R) (choosing.choose_on chooser rounds n ps ws) (same_then P Q R (row_skip lines inner rounds rs n p ps)) (lists_row lines rounds n ps P ws l))
  lists_row lines rounds zero (p ∷ ps) P ws l =
      let n = owned_by p.statement ps in let O = One lines inner rounds p p.statement ps rs in let more = choosing.one chooser rounds p.statement ps ws in
      let R = Row lines inner rounds zero (p ∷ ps) rs in
      let next = lists_row lines rounds n ps (Then P O) more (lists_one lines rounds P ws l p p.statement ps) in
      subst (λ vs. Lists vs (Then P R)) (sym (choices.on_one chooser rounds p ps ws)) (lists_moved P O (choosing.choose_on chooser rounds n ps more) (Row lines inner rounds n ps rs) R (row_one lines inner rounds rs p ps) next)

-- statements with as many blocks inside each other
pub through_none : (lines : List (List ℕ)) (rounds rs : List ℕ) (ps : List Placed) → Same (Only (only [])) (Through lines rounds 0 rs ps)
unfolding Through
through_none lines rounds rs ps = record { there = λ h cut p. p; back = λ h cut p. p }

pub through_some : (lines : List (List ℕ)) (rounds : List ℕ) (d : ℕ) (rs : List ℕ) (ps : List Placed) → Same (Row lines (Through lines rounds d) rounds 0 ps rs) (Through lines rounds (suc d) rs ps)
unfolding Through
through_some lines rounds d rs ps = record { there = λ h cut p. p; back = λ h cut p. p }

pub lists_through : (lines : List (List ℕ)) (rounds : List ℕ) (d : ℕ) (rs : List ℕ) (ps : List Placed) → Lists (choosing.choose d rounds ps) (Through lines rounds d rs ps)
lists_through lines rounds zero rs ps =
    subst (λ vs. Lists vs (Through lines rounds 0 rs ps)) (sym (choices.choose_zero 0 rounds ps refl)) (lists_same (Only (only [])) (Through lines rounds 0 rs ps) straight (through_none lines rounds rs ps) (lists_only []))
lists_through lines rounds (suc d) rs ps =
    let chooser = choosing.choose d rounds in let inner = Through lines rounds d in let ws = choosing.choose_on chooser rounds 0 ps straight in
    let R = Row lines inner rounds 0 ps rs in
    let rows = lists_row chooser inner (lists_through lines rounds d) rs lines rounds 0 ps (Only (only [])) straight (lists_only []) in
    subst (λ vs. Lists vs (Through lines rounds (suc d) rs ps)) (sym (choices.choose_some (suc d) d rounds ps refl)) (lists_same R (Through lines rounds (suc d) rs ps) ws (through_some lines rounds d rs ps) (lists_first R ws rows))

-- the choices of a path are those of a history
found_in : (P : Histories) (given : List ℕ) (ws : List Path) → AllByRecursion (Told P) ws → Has (λ cs. cs ≡ given) (map (λ w. w.choices) ws) → (ss : List Step) × (cut : Bool) × P (record { choices = given; steps = ss }) cut
found_in P given [] all h = absurd h
found_in P given (w ∷ ws) all (inl e) = (all.0.0, w.broken, subst (λ cs. P (record { choices = cs; steps = all.0.0 }) w.broken) e all.0.1)
found_in P given (w ∷ ws) all (inr h) = found_in P given ws all.1 h

module _ (rounds : List ℕ) (d : Diagram) (given : List ℕ) where
  abbrev paths : List Path
  paths = choosing.choose (DEPTH_LIMIT + 1) rounds d.statements

  abbrev are : Lists paths (Through d.lines rounds (DEPTH_LIMIT + 1) [] d.statements)
  are = lists_through d.lines rounds (DEPTH_LIMIT + 1) [] d.statements

  pub listed_history : Contains (all_choices rounds d) given → (ss : List Step) × IsHistory rounds d (record { choices = given; steps = ss })
  listed_history k =
      let h = found_in (Through d.lines rounds (DEPTH_LIMIT + 1) [] d.statements) given paths are.each (from_place (all_choices rounds d) given k.0 k.1 k.2) in
      (h.0, (h.1, h.2))

  pub history_listed : (ss : List Step) → IsHistory rounds d (record { choices = given; steps = ss }) → Contains (all_choices rounds d) given
  history_listed ss h =
      let x : History = record { choices = given; steps = ss } in
      to_place (all_choices rounds d) given (has_map (Is x h.0) (λ cs. cs ≡ given) (λ (w : Path). w.choices) (λ w i. i.0) paths (are.all x h.0 h.1))
