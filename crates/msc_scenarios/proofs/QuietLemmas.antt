-- Where no block may take a choice there is one scenario.
use Rattle.std.proofs.Common.{◌≡◌, ℕ, zero, suc, Bool, true, false, cond, not, List, [], ◌∷◌, take, refl, ap, ◌∙◌}
use Rattle.std.specs.Cmp.Derive.{both_true}
use Rattle.std.specs.List.{list_all, onto_first}
use Rattle.std.proofs.lemmas.Bool.{and_parts, false≢true}
use Rattle.msc_mermaid.specs.declared.row.Kind.{Kind}
use Rattle.msc_mermaid.specs.declared.row.Kind.TheVariants as kinds
use Rattle.msc_mermaid.specs.declared.statement.Arrow.{Arrow}
use Rattle.msc_mermaid.specs.declared.statement.Placed.{Placed}
use Rattle.msc_mermaid.specs.declared.statement.Statement.{Statement}
use Rattle.msc_mermaid.specs.declared.statement.Statement.TheVariants.{Declares, Says, Begins, Closes}
use Rattle.msc_scenarios.specs.Choosing.{Chooser, behind, block, by_fate, by_sides, choose, choose_on, formed, healed, one, straight}
use Rattle.msc_scenarios.specs.Steps.{branch_at, branches_in, deeper, extent, is_choice, is_there, joins_at, owned_by}
use Rattle.msc_scenarios.specs.Laws.{may_choose}
use Rattle.msc_scenarios.proofs.ChoiceLemmas.{sides_cons, sides_none, on_skip, on_one, on_none, choose_zero, choose_some}

-- no block among the statements may take a choice
abbrev pub is_quiet : Placed → Bool
is_quiet p = not (may_choose p.statement)

abbrev pub are_quiet : List Placed → Bool
are_quiet ps = list_all is_quiet ps

-- so it is among the first of them, and in their branches
quiet_take : (n : ℕ) (ps : List Placed) → are_quiet ps ≡ true → are_quiet (take n ps) ≡ true
quiet_take zero ps h = refl
quiet_take (suc n) [] h = refl
quiet_take (suc n) (p ∷ ps) h = let parts = and_parts _ _ h in both_true parts.0 (quiet_take n ps parts.1)

quiet_onto : (p : Placed) (bs : List (List Placed)) → is_quiet p ≡ true → list_all are_quiet bs ≡ true → list_all are_quiet (onto_first p bs) ≡ true
quiet_onto p [] q h = both_true (both_true q refl) refl
quiet_onto p (b ∷ bs) q h = let parts = and_parts _ _ h in both_true (both_true q parts.0) parts.1

quiet_branches : (d : ℕ) (ps : List Placed) → are_quiet ps ≡ true → list_all are_quiet (branches_in d ps) ≡ true
unfolding branches_in
quiet_branches d [] h = refl
quiet_branches d (p ∷ ps) h =
    let parts = and_parts _ _ h in let e = deeper d p.statement in
    let rest = quiet_branches e ps parts.1 in
    elim (joins_at d p.statement) as (λ t. list_all are_quiet (cond t ([] ∷ branches_in e ps) (onto_first p (branches_in e ps))) ≡ true) [
      | true ↦ both_true refl rest
      | false ↦ quiet_onto p (branches_in e ps) parts.0 rest
    ]

quiet_first : (bs : List (List Placed)) → list_all are_quiet bs ≡ true → are_quiet (branch_at bs 0) ≡ true
quiet_first [] h = refl
quiet_first (b ∷ bs) h = (and_parts _ _ h).0

-- an arrow without a choice adds none
quiet_said : (a : Arrow) → not (is_choice a) ≡ true → cond (is_choice a) (behind straight by_fate) straight ≡ straight
quiet_said a q =
    elim (is_choice a) as (λ t. not t ≡ true → cond t (behind straight by_fate) straight ≡ straight) [
      | true ↦ λ e. absurd (false≢true e)
      | false ↦ λ e. refl
    ] q

-- one way leads through branches, if one does through each
module _ (inner : Chooser) (one_path : (b : List Placed) → are_quiet b ≡ true → inner b ≡ straight) where
  quiet_sides : (bs : List (List Placed)) → list_all are_quiet bs ≡ true → by_sides inner bs straight ≡ straight
  quiet_sides [] h = sides_none inner straight
  quiet_sides (b ∷ bs) h =
      let parts = and_parts _ _ h in
      sides_cons inner b bs straight ∙ ap (λ x. by_sides inner bs (behind straight (healed x))) (one_path b parts.0) ∙ quiet_sides bs parts.1

  module _ (rounds : List ℕ) where
    quiet_par : (inside : List Placed) → are_quiet inside ≡ true → block inner rounds kinds.Par inside straight ≡ straight
    unfolding block formed
    quiet_par inside h =
        let bs = branches_in 0 inside in
        elim (is_there kinds.Par inside) as (λ t. cond t (behind straight (by_sides inner bs straight)) straight ≡ straight) [
          | true ↦ ap (behind straight) (quiet_sides bs (quiet_branches 0 inside h))
          | false ↦ refl
        ]

    quiet_plain : (inside : List Placed) → are_quiet inside ≡ true → block inner rounds kinds.Plain inside straight ≡ straight
    unfolding block formed
    quiet_plain inside h =
        let b = branch_at (branches_in 0 inside) 0 in
        elim (is_there kinds.Plain inside) as (λ t. cond t (behind straight (inner b)) straight ≡ straight) [
          | true ↦ ap (behind straight) (one_path b (quiet_first (branches_in 0 inside) (quiet_branches 0 inside h)))
          | false ↦ refl
        ]

    quiet_block : (kind : Kind) (inside : List Placed) → not (may_choose (Begins kind)) ≡ true → are_quiet inside ≡ true → block inner rounds kind inside straight ≡ straight
    quiet_block kinds.Par inside q h = quiet_par inside h
    quiet_block kinds.Plain inside q h = quiet_plain inside h
    quiet_block kinds.Alt inside q h = absurd (false≢true q)
    quiet_block kinds.Opt inside q h = absurd (false≢true q)
    quiet_block kinds.Loop inside q h = absurd (false≢true q)
    quiet_block kinds.Break inside q h = absurd (false≢true q)
    quiet_block kinds.Critical inside q h = absurd (false≢true q)

    quiet_one : (s : Statement) (ps : List Placed) → not (may_choose s) ≡ true → are_quiet ps ≡ true → one inner rounds s ps straight ≡ straight
    quiet_one (Begins kind) ps q h = quiet_block kind (take (extent 0 ps) ps) q (quiet_take (extent 0 ps) ps h)
    quiet_one (Declares ident shown) ps q h = refl
    quiet_one (Says arrow) ps q h = quiet_said arrow q
    quiet_one (Closes closer) ps q h = refl

    quiet_on : (n : ℕ) (ps : List Placed) → are_quiet ps ≡ true → choose_on inner rounds n ps straight ≡ straight
    quiet_on n [] h = on_none inner rounds n straight
    quiet_on (suc n) (p ∷ ps) h = on_skip inner rounds n p ps straight ∙ quiet_on n ps (and_parts _ _ h).1
    quiet_on zero (p ∷ ps) h =
        let parts = and_parts _ _ h in
        on_one inner rounds p ps straight
        ∙ ap (choose_on inner rounds (owned_by p.statement ps) ps) (quiet_one p.statement ps parts.0 parts.1)
        ∙ quiet_on (owned_by p.statement ps) ps parts.1

-- one way leads through such statements
pub quiet_choose : (d : ℕ) (rounds : List ℕ) (ps : List Placed) → are_quiet ps ≡ true → choose d rounds ps ≡ straight
quiet_choose zero rounds ps h = choose_zero 0 rounds ps refl
quiet_choose (suc d) rounds ps h = choose_some (suc d) d rounds ps refl ∙ quiet_on (choose d rounds) (quiet_choose d rounds) rounds 0 ps h
