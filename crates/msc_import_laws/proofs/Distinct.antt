-- Statements no two of which are arrows of one number: their parts, and the branches of a block.
use Rattle.std.proofs.Common.{◌≡◌, ◌⊎◌, ℕ, zero, suc, Bool, true, false, cond, take, drop, sym, inl, inr, List, [], ◌∷◌, ◌++◌, Some, refl, ap, subst}
use Rattle.std.specs.List.{flat_map, onto_first}
use Rattle.msc_chart.specs.Lists.{Occurs}
use Rattle.msc_chart.proofs.ListLemmas.{by_test}
use Rattle.msc_mermaid.specs.declared.statement.Placed.{Placed}
use Rattle.msc_scenarios.specs.Steps.{branch_at, branches_in, deeper, joins_at}
use Rattle.msc_import_laws.specs.Outlined.{AreDistinct, Differ}
use Rattle.msc_import_laws.proofs.Stands.{first_joined, second_joined}

-- what is in a part is in the whole
pub in_take : {X : Type 0} (k : ℕ) (xs : List X) (x : X) → Occurs (take k xs) x → Occurs xs x
in_take zero [] x (j, h) = cc
in_take zero (y ∷ xs) x (j, h) = cc
in_take (suc k) [] x (j, h) = cc
in_take (suc k) (y ∷ xs) x (zero, h) = (0, h)
in_take (suc k) (y ∷ xs) x (suc j, h) = let r = in_take k xs x (j, h) in (suc r.0, r.1)

pub in_drop : {X : Type 0} (k : ℕ) (xs : List X) (x : X) → Occurs (drop k xs) x → Occurs xs x
in_drop zero [] x h = h
in_drop zero (y ∷ xs) x h = h
in_drop (suc k) [] x (j, h) = cc
in_drop (suc k) (y ∷ xs) x h = let r = in_drop k xs x h in (suc r.0, r.1)

-- statements differ both ways
pub differ_back : (p q : Placed) → Differ p q → Differ q p
differ_back p q d = λ a b e f same. d b a f e (sym same)

pub distinct_take : (k : ℕ) (ps : List Placed) → AreDistinct ps → AreDistinct (take k ps)
distinct_take zero [] h = tt
distinct_take zero (p ∷ ps) h = tt
distinct_take (suc k) [] h = tt
distinct_take (suc k) (p ∷ ps) h = (λ q o. h.0 q (in_take k ps q o), distinct_take k ps h.1)

pub distinct_drop : (k : ℕ) (ps : List Placed) → AreDistinct ps → AreDistinct (drop k ps)
distinct_drop zero [] h = h
distinct_drop zero (p ∷ ps) h = h
distinct_drop (suc k) [] h = tt
distinct_drop (suc k) (p ∷ ps) h = distinct_drop k ps h.1

pub parts_differ : (k : ℕ) (ps : List Placed) (p q : Placed) → AreDistinct ps → Occurs (take k ps) p → Occurs (drop k ps) q → Differ p q
parts_differ zero [] p q h (j, a) b = cc
parts_differ zero (x ∷ ps) p q h (j, a) b = cc
parts_differ (suc k) [] p q h (j, a) b = cc
parts_differ (suc k) (x ∷ ps) p q h (zero, a) b = let e : x ≡ p = cc in subst (λ y. Differ y q) e (h.0 q (in_drop k ps q b))
parts_differ (suc k) (x ∷ ps) p q h (suc j, a) b = parts_differ k ps p q h.1 (j, a) b

-- two joined lists
pub joined_first : (xs ys : List Placed) → AreDistinct (xs ++ ys) → AreDistinct xs
joined_first [] ys h = tt
joined_first (x ∷ xs) ys h = (λ q o. h.0 q (first_joined xs ys q o), joined_first xs ys h.1)

pub joined_second : (xs ys : List Placed) → AreDistinct (xs ++ ys) → AreDistinct ys
joined_second [] ys h = h
joined_second (x ∷ xs) ys h = joined_second xs ys h.1

pub joined_differ : (xs ys : List Placed) (p q : Placed) → AreDistinct (xs ++ ys) → Occurs xs p → Occurs ys q → Differ p q
joined_differ [] ys p q h (j, a) b = cc
joined_differ (x ∷ xs) ys p q h (zero, a) b = let e : x ≡ p = cc in subst (λ y. Differ y q) e (h.0 q (second_joined xs ys q b))
joined_differ (x ∷ xs) ys p q h (suc j, a) b = joined_differ xs ys p q h.1 (j, a) b

-- branches, one behind the other
abbrev pub together : List (List Placed) → List Placed
together bs = flat_map (λ b. b) bs

onto_together : (p : Placed) (bs : List (List Placed)) → together (onto_first p bs) ≡ p ∷ together bs
onto_together p [] = refl
onto_together p (b ∷ bs) = refl

-- the branches have the statements of the block, but for those that part them
branches_if : (d : ℕ) (p : Placed) (ps : List Placed) (b : Bool) → joins_at d p.statement ≡ b → together (branches_in d (p ∷ ps)) ≡ cond b (together (branches_in (deeper d p.statement) ps)) (p ∷ together (branches_in (deeper d p.statement) ps))
unfolding branches_in
branches_if d p ps true h = rw h refl
branches_if d p ps false h = rw h (onto_together p (branches_in (deeper d p.statement) ps))

-- what occurs behind a head is the head, or occurs behind it
pub head_or : {X : Type 0} (x q : X) (xs : List X) → Occurs (x ∷ xs) q → (x ≡ q) ⊎ Occurs xs q
head_or x q xs (zero, h) = let e : x ≡ q = cc in inl e
head_or x q xs (suc j, h) = inr (j, h)

pub in_branches : (d : ℕ) (ps : List Placed) (q : Placed) → Occurs (together (branches_in d ps)) q → Occurs ps q
unfolding branches_in
in_branches d [] q (j, h) = cc
in_branches d (p ∷ ps) q o =
    let rest = in_branches (deeper d p.statement) ps q in
    let later : Occurs (together (branches_in (deeper d p.statement) ps)) q → Occurs (p ∷ ps) q = λ k. let r = rest k in (suc r.0, r.1) in
    by_test (joins_at d p.statement)
    (λ joint. later (subst (λ l. Occurs l q) (branches_if d p ps true joint) o))
    (λ none. elim (head_or p q (together (branches_in (deeper d p.statement) ps)) (subst (λ l. Occurs l q) (branches_if d p ps false none) o)) [
      | inl same ↦ (0, ap Some same)
      | inr more ↦ later more
    ])

pub distinct_branches : (d : ℕ) (ps : List Placed) → AreDistinct ps → AreDistinct (together (branches_in d ps))
unfolding branches_in
distinct_branches d [] h = tt
distinct_branches d (p ∷ ps) h =
    let rest = distinct_branches (deeper d p.statement) ps h.1 in
    by_test (joins_at d p.statement)
    (λ joint. subst AreDistinct (sym (branches_if d p ps true joint)) rest)
    (λ none. subst AreDistinct (sym (branches_if d p ps false none)) (λ q o. h.0 q (in_branches (deeper d p.statement) ps q o), rest))

-- a branch is among them
pub in_branch : (bs : List (List Placed)) (i : ℕ) (q : Placed) → Occurs (branch_at bs i) q → Occurs (together bs) q
in_branch [] zero q (j, h) = cc
in_branch [] (suc i) q (j, h) = cc
in_branch (b ∷ bs) zero q h = first_joined b (together bs) q h
in_branch (b ∷ bs) (suc i) q h = second_joined b (together bs) q (in_branch bs i q h)

pub distinct_branch : (bs : List (List Placed)) (i : ℕ) → AreDistinct (together bs) → AreDistinct (branch_at bs i)
distinct_branch [] zero h = tt
distinct_branch [] (suc i) h = tt
distinct_branch (b ∷ bs) zero h = joined_first b (together bs) h
distinct_branch (b ∷ bs) (suc i) h = distinct_branch bs i (joined_second b (together bs) h)

-- the first branch and a later one
pub branches_differ : (bs : List (List Placed)) (i : ℕ) (p q : Placed) → AreDistinct (together bs) → Occurs (branch_at bs 0) p → Occurs (branch_at bs (suc i)) q → Differ p q
branches_differ [] i p q h (j, a) b = cc
branches_differ (x ∷ bs) i p q h a b = joined_differ x (together bs) p q h a (in_branch bs i q b)
