-- A walk that is given the choices of a path through statements takes them.
use Rattle.std.proofs.Common.{◌≡◌, ◌⊎◌, inl, inr, ℕ, zero, suc, ◌+◌, Bool, true, false, cond, nat_le, Ok, Err, List, [], ◌∷◌, ◌++◌, length, take, refl, sym, ap, ◌∙◌, subst, ◌==◌, arith}
use Rattle.std.specs.List.{AllByRecursion, list_all}
use Rattle.std.proofs.lemmas.Bool.Decides.{nat_tests}
use Rattle.std.proofs.lemmas.List.{append-nil}
use Rattle.msc_place.specs.declared.position.Position.{Position}
use Rattle.msc_mermaid.specs.declared.TheConstants.{DEPTH_LIMIT}
use Rattle.msc_scenarios.specs.declared.TheConstants.{ARROW_LIMIT, ROUND_LIMIT}
use Rattle.msc_scenarios.specs.declared.path.Path.{Path}
use Rattle.msc_scenarios.specs.declared.steps.Ending.TheVariants as ends
use Rattle.msc_scenarios.specs.declared.steps.Step.TheVariants as steps
use Rattle.msc_mermaid.specs.declared.fault.ImportFault.TheVariants.{TooManyArrows, TooManyChoices}
use Rattle.msc_mermaid.specs.declared.row.Kind.{Kind}
use Rattle.msc_mermaid.specs.declared.statement.Arrow.{Arrow}
use Rattle.msc_mermaid.specs.declared.statement.Diagram.{Diagram}
use Rattle.msc_mermaid.specs.declared.statement.Placed.{Placed}
use Rattle.msc_mermaid.specs.declared.statement.Statement.{Statement}
use Rattle.msc_mermaid.specs.declared.statement.Statement.TheVariants.{Declares, Says, Begins, Closes}
use Rattle.msc_scenarios.specs.Choosing as choosing
use Rattle.msc_scenarios.specs.Choosing.{Chooser, all_choices, behind, by_fate, straight}
use Rattle.msc_scenarios.specs.Steps as passing
use Rattle.msc_scenarios.specs.Steps.{Walk, Walker, branches_in, choice_of, choose, ended, extent, passage_of, heads, is_choice, is_loss, is_there, meet, message_of, owned_by, said, then, walk, walk_on, at_rest, unended, start_of}
use Rattle.msc_scenarios.specs.Laws.{IsTooLong, IsWhole, Takes, walked}
use Rattle.msc_scenarios.proofs.ChoiceLemmas as choices
use Rattle.msc_scenarios.proofs.FollowLemmas.{Ends, Follows, IsGiven, Kept, ending_of, follows_none, follows_passed, follows_under, follows_when, then_going, then_same, then_then}
use Rattle.msc_scenarios.proofs.FollowFormLemmas.{follow_formed}
use Rattle.msc_scenarios.proofs.FollowListLemmas.{AllFollow, all_map, all_same, follow_behind, follow_straight, retold, then_as}
use Rattle.msc_scenarios.proofs.WalkLemmas as walks

-- an arrow that is lost or arrives takes no choice, and may be one too many
meet_keeps : (p : Placed) (a : Arrow) (lost : Bool) (rs : List ℕ) (v : Walk) → v.ending ≡ ends.Goes → IsTooLong (meet p a lost rs v) ⊎ Kept v (meet p a lost rs v)
unfolding meet
meet_keeps p a lost rs v e =
    let met : Walk = record {
      lines = v.lines;
      given = v.given;
      taken = v.taken;
      steps = v.steps ++ steps.Meets (message_of v.lines p a lost rs) ∷ [];
      arrows = v.arrows + heads a;
      ending = v.ending;
    } in
    let stopped = ended (ends.Stopped (TooManyArrows (start_of p))) v in
    elim (nat_le (v.arrows + heads a) ARROW_LIMIT) as (λ t. IsTooLong (cond t met stopped) ⊎ Kept v (cond t met stopped)) [
      | true ↦ inr (record { given = refl; taken = refl; ending = e })
      | false ↦ inl ((start_of p), refl)
    ]

-- an arrow with a choice takes it
module _ (p : Placed) (a : Arrow) (rs : List ℕ) where
  abbrev by_choice : ℕ → Walk → Walk
  by_choice c = meet p a (c == 0) rs

  abbrev alone : Path
  alone = record { choices = []; broken = false }

  follow_met : (c : ℕ) → Follows (by_choice c) alone
  follow_met c =
      follows_when (λ w. then w (by_choice c)) (by_choice c) alone (λ w e. sym (then_going w (by_choice c) e)) (follows_passed (λ w. w) (by_choice c) (meet_keeps p a (c == 0) rs) alone follows_none)

  follow_fate : AllFollow (λ w. then (choose (start_of p) 1 0 w) (by_choice (choice_of 0 w))) by_fate
  follow_fate =
      (follows_under (start_of p) 1 0 by_choice 0 refl alone (follow_met 0), (follows_under (start_of p) 1 0 by_choice 1 refl alone (follow_met 1), tt))

  follow_said : (f : Walk → Walk) (ws : List Path) → AllFollow f ws → AllFollow (λ w. then (f w) (said p a rs)) (cond (is_choice a) (behind ws by_fate) ws)
  unfolding said
  follow_said f ws h =
      let lost = is_loss a.fate in
      elim (is_choice a) as (λ t. AllFollow (λ w. then (f w) (λ v. cond t (then (choose (start_of p) 1 0 v) (by_choice (choice_of 0 v))) (meet p a lost rs v))) (cond t (behind ws by_fate) ws)) [
        | true ↦ follow_behind f (λ v. then (choose (start_of p) 1 0 v) (by_choice (choice_of 0 v))) by_fate follow_fate ws h
        | false ↦ all_same (Follows f) (Follows (λ w. then (f w) (meet p a lost rs))) (follows_passed f (meet p a lost rs) (meet_keeps p a lost rs)) ws h
      ]

module _ (inner : Chooser) (walker : Walker) (same : (b : List Placed) (rs : List ℕ) → AllFollow (walker b rs) (inner b)) (rs rounds : List ℕ) (few : list_all (λ r. nat_le r ROUND_LIMIT) rounds ≡ true) where
  -- nothing is done
  module _ (f : Walk → Walk) (ws : List Path) (h : AllFollow f ws) where
    follow_nothing : AllFollow (λ w. then (f w) (λ v. v)) ws
    follow_nothing = retold f (λ w. then (f w) (λ v. v)) ws (λ w e. then_same (f w)) h

    follow_block : (line : Position) (kind : Kind) (inside : List Placed) → AllFollow (λ w. then (f w) (passing.block walker line kind inside rs)) (choosing.block inner rounds kind inside ws)
    unfolding passing.block choosing.block
    follow_block line kind inside =
        let bs = branches_in 0 inside in let passage = passage_of kind (length bs) in
        let walked = passing.formed walker line passage bs rs in let found = choosing.formed inner rounds passage bs in
        elim (is_there kind inside) as (λ t. AllFollow (λ w. then (f w) (λ v. cond t (walked v) v)) (cond t (behind ws found) ws)) [
          | true ↦ follow_behind f walked found (follow_formed inner walker same rs line bs rounds few passage) ws h
          | false ↦ follow_nothing
        ]

    follow_one : (p : Placed) (s : Statement) (ps : List Placed) → AllFollow (λ w. then (f w) (passing.one walker p s ps rs)) (choosing.one inner rounds s ps ws)
    follow_one p (Begins kind) ps = follow_block (start_of p) kind (take (extent 0 ps) ps)
    follow_one p (Says arrow) ps = follow_said p arrow rs f ws h
    follow_one p (Declares ident shown) ps = follow_nothing
    follow_one p (Closes closer) ps = follow_nothing

  follow_on : (n : ℕ) (ps : List Placed) (f : Walk → Walk) (ws : List Path) → AllFollow f ws → AllFollow (λ w. then (f w) (walk_on walker n ps rs)) (choosing.choose_on inner rounds n ps ws)
  follow_on n [] f ws h =
      let on = walk_on walker n [] rs in
      subst (AllFollow (λ w. then (f w) on)) (sym (choices.on_none inner rounds n ws)) (retold f (λ w. then (f w) on) ws (λ w e. then_as (f w) on (λ v. v) (walks.on_none walker n rs (f w)) ∙ then_same (f w)) h)
  follow_on (suc n) (p ∷ ps) f ws h =
      let on = walk_on walker (suc n) (p ∷ ps) rs in let rest = walk_on walker n ps rs in
      subst (AllFollow (λ w. then (f w) on)) (sym (choices.on_skip inner rounds n p ps ws)) (retold (λ w. then (f w) rest) (λ w. then (f w) on) (choosing.choose_on inner rounds n ps ws) (λ w e. then_as (f w) on rest (walks.on_skip walker n p ps rs (f w))) (follow_on n ps f ws h))
  follow_on zero (p ∷ ps) f ws h =
      let on = walk_on walker 0 (p ∷ ps) rs in let n = owned_by p.statement ps in let rest = walk_on walker n ps rs in
      let step = passing.one walker p p.statement ps rs in let more = choosing.one inner rounds p.statement ps ws in
      let next = follow_on n ps (λ w. then (f w) step) more (follow_one f ws h p p.statement ps) in
      let is = λ (w : Walk) (e : w.ending ≡ ends.Goes). then_as (f w) on (λ v. then (step v) rest) (walks.on_one walker p ps rs (f w)) ∙ sym (then_then (f w) step rest) in
      subst (AllFollow (λ w. then (f w) on)) (sym (choices.on_one inner rounds p ps ws)) (retold (λ w. then (then (f w) step) rest) (λ w. then (f w) on) (choosing.choose_on inner rounds n ps more) is next)

-- statements with as many blocks inside each other
pub follow_walk : (rounds : List ℕ) → list_all (λ r. nat_le r ROUND_LIMIT) rounds ≡ true → (d : ℕ) (ps : List Placed) (rs : List ℕ) → AllFollow (walk d ps rs) (choosing.choose d rounds ps)
follow_walk rounds few zero ps rs =
    subst (AllFollow (walk 0 ps rs)) (sym (choices.choose_zero 0 rounds ps refl)) (retold (λ w. w) (walk 0 ps rs) straight (λ w e. walks.walk_zero 0 ps rs w refl) follow_straight)
follow_walk rounds few (suc d) ps rs =
    let on = walk_on (walk d) 0 ps rs in let found = choosing.choose_on (choosing.choose d rounds) rounds 0 ps straight in
    let walked = follow_on (choosing.choose d rounds) (walk d) (follow_walk rounds few d) rs rounds few 0 ps (λ w. w) straight follow_straight in
    let is = λ (w : Walk) (e : w.ending ≡ ends.Goes). walks.walk_some (suc d) d ps rs w refl ∙ sym (then_going w on e) in
    subst (AllFollow (walk (suc d) ps rs)) (sym (choices.choose_some (suc d) d rounds ps refl)) (retold (λ w. then w on) (walk (suc d) ps rs) found is walked)

-- what has taken all that it was given has a draft beside its lines
pub whole_by : (v : Walk) (b : Bool) → nat_le (length v.given) (length v.taken) ≡ true → unended v (ending_of b) ≡ Ok v
whole_by v true all = ap (λ t. cond t (Ok v) (Err (TooManyChoices (length v.given) (length v.taken)))) all
whole_by v false all = ap (λ t. cond t (Ok v) (Err (TooManyChoices (length v.given) (length v.taken)))) all

pub all_taken : (m n : ℕ) → m ≡ n → nat_le m n ≡ true
all_taken m n e = grind (arith, nat_tests)

takes_them : (lines : List (List ℕ)) (v : Walk) (path : Path) → Ends (at_rest lines path.choices) v path → IsTooLong v ⊎ Takes path.choices v
takes_them lines v path (inl long) = inl long
takes_them lines v path (inr t) =
    let all = all_taken (length v.given) (length v.taken) (ap length (t.given ∙ sym t.taken)) in
    inr (t.taken, ap (unended v) t.ending ∙ whole_by v path.broken all)

pub given_all : (lines : List (List ℕ)) (cs : List ℕ) → IsGiven (at_rest lines cs) cs
given_all lines cs = record { going = refl; rest = []; given = sym (append-nil cs) }

pub each_is_whole : (rounds : List ℕ) (d : Diagram) → list_all (λ r. nat_le r ROUND_LIMIT) rounds ≡ true → AllByRecursion (IsWhole d) (all_choices rounds d)
each_is_whole rounds d few =
    all_map (Follows (walk (DEPTH_LIMIT + 1) d.statements [])) (IsWhole d) (λ w. w.choices) (λ path h. takes_them d.lines (walked d path.choices) path (h.ends (at_rest d.lines path.choices) (given_all d.lines path.choices))) (choosing.choose (DEPTH_LIMIT + 1) rounds d.statements) (follow_walk rounds few (DEPTH_LIMIT + 1) d.statements [])
