-- What a walk through statements takes is one of the paths through them, or it stops.
use Rattle.std.proofs.Common.{◌≡◌, ◌⊎◌, inl, inr, ◌<◌, ◌≤◌, ℕ, zero, suc, ◌+◌, Bool, true, false, cond, nat_le, ◌==◌, Result, Ok, Err, List, [], ◌∷◌, ◌++◌, length, map, take, refl, sym, ap, ◌∙◌, subst, arith}
use Rattle.std.specs.List.{Contains, onto_first, slice_index_or}
use Rattle.std.proofs.lemmas.Bool.{false≢true, leb-true}
use Rattle.msc_place.specs.declared.position.Position.{Position}
use Rattle.msc_mermaid.specs.declared.TheConstants.{DEPTH_LIMIT}
use Rattle.msc_scenarios.specs.declared.TheConstants.{ARROW_LIMIT, ROUND_LIMIT}
use Rattle.msc_scenarios.specs.declared.path.Path.{Path}
use Rattle.msc_scenarios.specs.declared.steps.Ending.{Ending}
use Rattle.msc_scenarios.specs.declared.steps.Ending.TheVariants as ends
use Rattle.msc_scenarios.specs.declared.steps.Step.TheVariants as steps
use Rattle.msc_mermaid.specs.declared.fault.ImportFault.{ImportFault}
use Rattle.msc_mermaid.specs.declared.fault.ImportFault.TheVariants.{TooManyArrows}
use Rattle.msc_mermaid.specs.declared.row.Kind.{Kind}
use Rattle.msc_mermaid.specs.declared.statement.Arrow.{Arrow}
use Rattle.msc_mermaid.specs.declared.statement.Diagram.{Diagram}
use Rattle.msc_mermaid.specs.declared.statement.Placed.{Placed}
use Rattle.msc_mermaid.specs.declared.statement.Statement.{Statement}
use Rattle.msc_mermaid.specs.declared.statement.Statement.TheVariants.{Declares, Says, Begins, Closes}
use Rattle.msc_scenarios.specs.Choosing as choosing
use Rattle.msc_scenarios.specs.Choosing.{Chooser, all_choices, behind, by_fate, chosen, straight}
use Rattle.msc_scenarios.specs.Steps as passing
use Rattle.msc_scenarios.specs.Steps.{Walk, Walker, branches_in, choice_of, choose, deeper, ended, extent, passage_of, heads, is_choice, is_loss, is_there, joins_at, meet, message_of, owned_by, said, then, unbroken, walk, walk_on, at_rest, unended, start_of}
use Rattle.msc_scenarios.specs.Laws.{Takes, walked}
use Rattle.msc_scenarios.proofs.ChoiceLemmas as choices
use Rattle.msc_scenarios.proofs.CoverFormLemmas.{cover_formed}
use Rattle.msc_scenarios.proofs.CoverLemmas.{Covers, CoversUnder, Ended, Has, IsStopped, Went, cover_behind, cover_more, cover_passed, cover_straight, cover_taking, cover_under, cover_when, has_left, has_map, has_right}
use Rattle.msc_scenarios.proofs.FollowLemmas.{Kept, then_going, then_same, then_then, unbroken_going}
use Rattle.msc_scenarios.proofs.FollowListLemmas.{then_as}
use Rattle.msc_scenarios.proofs.WalkLemmas as walks

-- a block has a branch
onto_some : (p : Placed) (bs : List (List Placed)) → 0 < length (onto_first p bs)
onto_some p [] = omega arith
onto_some p (b ∷ bs) = omega arith

some_branch : (d : ℕ) (ps : List Placed) → 0 < length (branches_in d ps)
unfolding branches_in
some_branch d [] = omega arith
some_branch d (p ∷ ps) =
    let rest = branches_in (deeper d p.statement) ps in
    elim (joins_at d p.statement) as (λ t. 0 < length (cond t ([] ∷ rest) (onto_first p rest))) [
      | true ↦ omega arith
      | false ↦ onto_some p rest
    ]

meet_passes : (p : Placed) (a : Arrow) (lost : Bool) (rs : List ℕ) (v : Walk) → v.ending ≡ ends.Goes → IsStopped (meet p a lost rs v) ⊎ Kept v (meet p a lost rs v)
unfolding meet
meet_passes p a lost rs v e =
    let met : Walk = record {
      lines = v.lines;
      given = v.given;
      taken = v.taken;
      steps = v.steps ++ steps.Meets (message_of v.lines p a lost rs) ∷ [];
      arrows = v.arrows + heads a;
      ending = v.ending;
    } in
    let stopped = ended (ends.Stopped (TooManyArrows (start_of p))) v in
    elim (nat_le (v.arrows + heads a) ARROW_LIMIT) as (λ t. IsStopped (cond t met stopped) ⊎ Kept v (cond t met stopped)) [
      | true ↦ inr (record { given = refl; taken = refl; ending = e })
      | false ↦ inl (TooManyArrows (start_of p), refl)
    ]

-- no break is among what an arrow does
pub meet_unbroken : (p : Placed) (a : Arrow) (lost : Bool) (rs : List ℕ) (v : Walk) → v.ending ≡ ends.Goes → meet p a lost rs v ≡ unbroken (meet p a lost rs v)
unfolding meet
meet_unbroken p a lost rs v e =
    let met : Walk = record {
      lines = v.lines;
      given = v.given;
      taken = v.taken;
      steps = v.steps ++ steps.Meets (message_of v.lines p a lost rs) ∷ [];
      arrows = v.arrows + heads a;
      ending = v.ending;
    } in
    let stopped = ended (ends.Stopped (TooManyArrows (start_of p))) v in
    elim (nat_le (v.arrows + heads a) ARROW_LIMIT) as (λ t. cond t met stopped ≡ unbroken (cond t met stopped)) [
      | true ↦ sym (unbroken_going met e)
      | false ↦ refl
    ]

-- an arrow with a choice takes it
module _ (p : Placed) (a : Arrow) (rs : List ℕ) where
  abbrev by_choice : ℕ → Walk → Walk
  by_choice c = meet p a (c == 0) rs

  cover_met : (c : ℕ) → CoversUnder c (by_choice c) (chosen c false straight)
  cover_met c =
      let on = cover_when (λ w. then w (by_choice c)) (by_choice c) straight (λ w e. sym (then_going w (by_choice c) e)) (cover_passed (λ w. w) (by_choice c) straight (meet_passes p a (c == 0) rs) cover_straight) in
      cover_under c (by_choice c) (by_choice c) straight (meet_unbroken p a (c == 0) rs) on

  each_fate : (c : ℕ) → nat_le c 1 ≡ true → CoversUnder c (by_choice c) by_fate
  each_fate zero small = cover_more 0 (by_choice 0) (chosen 0 false straight) by_fate (λ P k. has_left P (chosen 0 false straight) (chosen 1 false straight) k) (cover_met 0)
  each_fate (suc zero) small = cover_more 1 (by_choice 1) (chosen 1 false straight) by_fate (λ P k. has_right P (chosen 0 false straight) (chosen 1 false straight) k) (cover_met 1)
  each_fate (suc (suc c)) small = let most = leb-true (suc (suc c)) 1 small in absurd (omega (arith, most))

  cover_said : (f : Walk → Walk) (ws : List Path) → Covers f ws → Covers (λ w. then (f w) (said p a rs)) (cond (is_choice a) (behind ws by_fate) ws)
  unfolding said
  cover_said f ws h =
      let lost = is_loss a.fate in let taken = λ (v : Walk). then (choose (start_of p) 1 0 v) (by_choice (choice_of 0 v)) in
      elim (is_choice a) as (λ t. Covers (λ w. then (f w) (λ v. cond t (taken v) (meet p a lost rs v))) (cond t (behind ws by_fate) ws)) [
        | true ↦ cover_behind f taken ws by_fate h (cover_taking (start_of p) 1 0 by_choice by_fate each_fate)
        | false ↦ cover_passed f (meet p a lost rs) ws (meet_passes p a lost rs) h
      ]

module _ (inner : Chooser) (walker : Walker) (same : (b : List Placed) (rs : List ℕ) → Covers (walker b rs) (inner b)) (rs rounds : List ℕ) (full : (r : ℕ) → r ≤ ROUND_LIMIT → Has (λ s. s ≡ r) rounds) where
  module _ (f : Walk → Walk) (ws : List Path) (h : Covers f ws) where
    cover_nothing : Covers (λ w. then (f w) (λ v. v)) ws
    cover_nothing = cover_when f (λ w. then (f w) (λ v. v)) ws (λ w e. then_same (f w)) h

    cover_block : (line : Position) (kind : Kind) (inside : List Placed) → Covers (λ w. then (f w) (passing.block walker line kind inside rs)) (choosing.block inner rounds kind inside ws)
    unfolding passing.block choosing.block
    cover_block line kind inside =
        let bs = branches_in 0 inside in let passage = passage_of kind (length bs) in
        let through = passing.formed walker line passage bs rs in let found = choosing.formed inner rounds passage bs in
        elim (is_there kind inside) as (λ t. Covers (λ w. then (f w) (λ v. cond t (through v) v)) (cond t (behind ws found) ws)) [
          | true ↦ cover_behind f through ws found h (cover_formed inner walker same rs line bs rounds full (some_branch 0 inside) passage)
          | false ↦ cover_nothing
        ]

    cover_one : (p : Placed) (s : Statement) (ps : List Placed) → Covers (λ w. then (f w) (passing.one walker p s ps rs)) (choosing.one inner rounds s ps ws)
    cover_one p (Begins kind) ps = cover_block (start_of p) kind (take (extent 0 ps) ps)
    cover_one p (Says arrow) ps = cover_said p arrow rs f ws h
    cover_one p (Declares ident shown) ps = cover_nothing
    cover_one p (Closes closer) ps = cover_nothing

  cover_on : (n : ℕ) (ps : List Placed) (f : Walk → Walk) (ws : List Path) → Covers f ws → Covers (λ w. then (f w) (walk_on walker n ps rs)) (choosing.choose_on inner rounds n ps ws)
  cover_on n [] f ws h =
      let on = walk_on walker n [] rs in
      subst (Covers (λ w. then (f w) on)) (sym (choices.on_none inner rounds n ws)) (cover_when f (λ w. then (f w) on) ws (λ w e. then_as (f w) on (λ v. v) (walks.on_none walker n rs (f w)) ∙ then_same (f w)) h)
  cover_on (suc n) (p ∷ ps) f ws h =
      let on = walk_on walker (suc n) (p ∷ ps) rs in let rest = walk_on walker n ps rs in
      subst (Covers (λ w. then (f w) on)) (sym (choices.on_skip inner rounds n p ps ws)) (cover_when (λ w. then (f w) rest) (λ w. then (f w) on) (choosing.choose_on inner rounds n ps ws) (λ w e. then_as (f w) on rest (walks.on_skip walker n p ps rs (f w))) (cover_on n ps f ws h))
  cover_on zero (p ∷ ps) f ws h =
      let on = walk_on walker 0 (p ∷ ps) rs in let n = owned_by p.statement ps in let rest = walk_on walker n ps rs in
      let step = passing.one walker p p.statement ps rs in let more = choosing.one inner rounds p.statement ps ws in
      let next = cover_on n ps (λ w. then (f w) step) more (cover_one f ws h p p.statement ps) in
      let is = λ (w : Walk) (e : w.ending ≡ ends.Goes). then_as (f w) on (λ v. then (step v) rest) (walks.on_one walker p ps rs (f w)) ∙ sym (then_then (f w) step rest) in
      subst (Covers (λ w. then (f w) on)) (sym (choices.on_one inner rounds p ps ws)) (cover_when (λ w. then (then (f w) step) rest) (λ w. then (f w) on) (choosing.choose_on inner rounds n ps more) is next)

-- statements with as many blocks inside each other
pub cover_walk : (rounds : List ℕ) → ((r : ℕ) → r ≤ ROUND_LIMIT → Has (λ s. s ≡ r) rounds) → (d : ℕ) (ps : List Placed) (rs : List ℕ) → Covers (walk d ps rs) (choosing.choose d rounds ps)
cover_walk rounds full zero ps rs =
    subst (Covers (walk 0 ps rs)) (sym (choices.choose_zero 0 rounds ps refl)) (cover_when (λ w. w) (walk 0 ps rs) straight (λ w e. walks.walk_zero 0 ps rs w refl) cover_straight)
cover_walk rounds full (suc d) ps rs =
    let on = walk_on (walk d) 0 ps rs in let found = choosing.choose_on (choosing.choose d rounds) rounds 0 ps straight in
    let told = cover_on (choosing.choose d rounds) (walk d) (cover_walk rounds full d) rs rounds full 0 ps (λ w. w) straight cover_straight in
    let is = λ (w : Walk) (e : w.ending ≡ ends.Goes). walks.walk_some (suc d) d ps rs w refl ∙ sym (then_going w on e) in
    subst (Covers (walk (suc d) ps rs)) (sym (choices.choose_some (suc d) d rounds ps refl)) (cover_when (λ w. then w on) (walk (suc d) ps rs) found is told)

-- an item of a list by its place, and by recursion
pub from_place : {X : Type 0} (xs : List X) (x : X) (k : ℕ) → k < length xs → slice_index_or xs k x ≡ x → Has (λ y. y ≡ x) xs
from_place [] x k within e = absurd (omega (arith, within))
from_place (y ∷ ys) x zero within e = inl e
from_place (y ∷ ys) x (suc k) within e = inr (from_place ys x k (omega (arith, within)) e)

pub to_place : {X : Type 0} (xs : List X) (x : X) → Has (λ y. y ≡ x) xs → Contains xs x
to_place [] x h = absurd h
to_place (y ∷ ys) x (inl e) = (0, omega arith, e)
to_place (y ∷ ys) x (inr h) = let k = to_place ys x h in (suc k.0, omega (arith, k.1), k.2)

is_ok : Result Walk ImportFault → Bool
is_ok (Ok v) = true
is_ok (Err f) = false

err_ok : (f : ImportFault) (v : Walk) → Err f ≡ Ok v → ⊥
unfolding is_ok
err_ok f v e = false≢true (ap is_ok e)

pub no_draft : (f : ImportFault) (v : Walk) (e : Ending) → e ≡ ends.Stopped f → unended v e ≡ Ok v → ⊥
no_draft f v e stopped ok = err_ok f v (sym (ap (unended v) stopped) ∙ ok)

-- what is taken from rest is one of the lists
taken_all : (lines : List (List ℕ)) (given : List ℕ) (v : Walk) (ws : List Path) → Takes given v → Ended (at_rest lines given) v ws → Contains (map (λ w. w.choices) ws) given
taken_all lines given v ws t (inl stopped) = absurd (no_draft stopped.0 v v.ending stopped.1 t.1)
taken_all lines given v ws t (inr h) =
    to_place (map (λ w. w.choices) ws) given (has_map (Went (at_rest lines given) v) (λ cs. cs ≡ given) (λ w. w.choices) (λ path k. sym k.taken ∙ t.0) ws h)

pub none_missing : (rounds : List ℕ) (d : Diagram) (given : List ℕ) → ((r : ℕ) → r ≤ ROUND_LIMIT → Contains rounds r) → Takes given (walked d given) → Contains (all_choices rounds d) given
none_missing rounds d given full t =
    let covered = cover_walk rounds (λ r most. let k = full r most in from_place rounds r k.0 k.1 k.2) (DEPTH_LIMIT + 1) d.statements [] in
    taken_all d.lines given (walked d given) (choosing.choose (DEPTH_LIMIT + 1) rounds d.statements) t (covered.paths (at_rest d.lines given) refl)
