-- Blocks among statements: where they end, and their branches.
use Rattle.std.proofs.Common.{◌≡◌, ◌<◌, ◌≤◌, ℕ, ◌+◌, ◌-◌, Bool, true, false, cond, List, [], ◌∷◌, ◌++◌, length, get_or, take, drop, refl, sym, ap, ◌∙◌, append_assoc, length-drop, get_or-drop, arith}
use Rattle.std.specs.List.{onto_first}
use Rattle.std.proofs.lemmas.List.{append-nil, take_more, drop_more, drop_all}
use Rattle.std.proofs.Math.Nat.{sub_self}
use Rattle.msc_mermaid.specs.declared.statement.Placed.{Placed}
use Rattle.msc_scenarios.specs.Steps.{ends_at, joins_at, deeper, extent, branches_in}

extent_cons : (d : ℕ) (p : Placed) (ps : List Placed) → extent d (p ∷ ps) ≡ cond (ends_at d p.statement) 0 (1 + extent (deeper d p.statement) ps)
unfolding extent
extent_cons d p ps = refl

extent_none : (d : ℕ) → extent d [] ≡ 0
unfolding extent
extent_none d = refl

module _ (d : ℕ) (ps : List Placed) (i : ℕ) where
  module _ (q : Placed) (inside : i < length ps) where
    -- what is left begins with this statement
    left : drop i ps ≡ get_or ps i q ∷ drop (i + 1) ps
    left = drop_more ps i q inside

    -- the block ends here, or further on
    pub extent_here : ends_at d (get_or ps i q).statement ≡ true → extent d (drop i ps) ≡ 0
    extent_here e = ap (extent d) left ∙ extent_cons d (get_or ps i q) (drop (i + 1) ps) ∙ ap (λ t. cond t 0 (1 + extent (deeper d (get_or ps i q).statement) (drop (i + 1) ps))) e

    pub extent_on : ends_at d (get_or ps i q).statement ≡ false → extent d (drop i ps) ≡ 1 + extent (deeper d (get_or ps i q).statement) (drop (i + 1) ps)
    extent_on e = ap (extent d) left ∙ extent_cons d (get_or ps i q) (drop (i + 1) ps) ∙ ap (λ t. cond t 0 (1 + extent (deeper d (get_or ps i q).statement) (drop (i + 1) ps))) e

  pub extent_end : length ps ≤ i → extent d (drop i ps) ≡ 0
  extent_end over = ap (extent d) (drop_all i ps over) ∙ extent_none d

-- the first of some branches gets these statements in front
abbrev pub led : List Placed → List (List Placed) → List (List Placed)
led front [] = front ∷ []
led front (b ∷ bs) = (front ++ b) ∷ bs

-- the statements between two places
abbrev pub span : List Placed → ℕ → ℕ → List Placed
span ps start i = take (i - start) (drop start ps)

-- The statements are parted up to i: the branches that are there, the one that begins at start and
-- goes on, and those of what is left are those of the block.
pub record AreParted (ps : List Placed) (branches : List (List Placed)) (start d i : ℕ) : Type 0 where
  pub ordered : start ≤ i
  pub low : d ≤ i
  pub told : branches ++ led (span ps start i) (branches_in d (drop i ps)) ≡ branches_in 0 ps

led_one : (front : List Placed) (p : Placed) (bs : List (List Placed)) → led front (onto_first p bs) ≡ led (front ++ p ∷ []) bs
led_one front p [] = refl
led_one front p (b ∷ bs) = ap (λ x. x ∷ bs) (sym (append_assoc front (p ∷ []) b))

led_onto : (p : Placed) (bs : List (List Placed)) → led [] (onto_first p bs) ≡ onto_first p bs
led_onto p [] = refl
led_onto p (b ∷ bs) = refl

led_none : (d : ℕ) (ps : List Placed) → led [] (branches_in d ps) ≡ branches_in d ps
unfolding branches_in
led_none d [] = refl
led_none d (p ∷ ps) =
    elim (joins_at d p.statement) as (λ t. led [] (cond t ([] ∷ branches_in (deeper d p.statement) ps) (onto_first p (branches_in (deeper d p.statement) ps))) ≡ cond t ([] ∷ branches_in (deeper d p.statement) ps) (onto_first p (branches_in (deeper d p.statement) ps))) [
      | true ↦ refl
      | false ↦ led_onto p (branches_in (deeper d p.statement) ps)
    ]

branches_cons : (d : ℕ) (p : Placed) (ps : List Placed) → branches_in d (p ∷ ps) ≡ cond (joins_at d p.statement) ([] ∷ branches_in (deeper d p.statement) ps) (onto_first p (branches_in (deeper d p.statement) ps))
unfolding branches_in
branches_cons d p ps = refl

span_none : (ps : List Placed) (i : ℕ) → span ps i i ≡ []
span_none ps i = ap (λ n. take n (drop i ps)) (sub_self i)

span_more : (ps : List Placed) (start i : ℕ) (q : Placed) → start ≤ i → i < length ps → span ps start (i + 1) ≡ span ps start i ++ get_or ps i q ∷ []
span_more ps start i q ordered inside =
    let short : i - start < length (drop start ps) = simp length-drop (omega arith) in
    let place : (i + 1) - start ≡ (i - start) + 1 = omega arith in
    let behind : start + (i - start) ≡ i = omega arith in
    ap (λ n. take n (drop start ps)) place ∙ take_more (drop start ps) (i - start) q short ∙ ap (λ x. span ps start i ++ x ∷ []) (get_or-drop start ps (i - start) q ∙ ap (λ n. get_or ps n q) behind)

-- nothing is parted yet
pub parted_none : (ps : List Placed) → AreParted ps [] 0 0 0
parted_none ps = record { ordered = omega arith; low = omega arith; told = led_none 0 ps }

module _ (ps : List Placed) (branches : List (List Placed)) (start d i : ℕ) (parted : AreParted ps branches start d i) (q : Placed) (inside : i < length ps) (e : ℕ) (deep : e ≡ deeper d (get_or ps i q).statement) (most : e ≤ d + 1) where
  branches_left : (t : Bool) → joins_at d (get_or ps i q).statement ≡ t → branches_in d (drop i ps) ≡ cond t ([] ∷ branches_in e (drop (i + 1) ps)) (onto_first (get_or ps i q) (branches_in e (drop (i + 1) ps)))
  branches_left t j =
      ap (branches_in d) (left d ps i q inside) ∙ branches_cons d (get_or ps i q) (drop (i + 1) ps)
      ∙ ap (λ b. cond b ([] ∷ branches_in (deeper d (get_or ps i q).statement) (drop (i + 1) ps)) (onto_first (get_or ps i q) (branches_in (deeper d (get_or ps i q).statement) (drop (i + 1) ps)))) j
      ∙ ap (λ n. cond t ([] ∷ branches_in n (drop (i + 1) ps)) (onto_first (get_or ps i q) (branches_in n (drop (i + 1) ps)))) (sym deep)

  -- a statement of a branch
  pub parted_on : joins_at d (get_or ps i q).statement ≡ false → AreParted ps branches start e (i + 1)
  parted_on j =
      let rest = branches_in e (drop (i + 1) ps) in
      let longer : led (span ps start (i + 1)) rest ≡ led (span ps start i) (onto_first (get_or ps i q) rest) = ap (λ x. led x rest) (span_more ps start i q parted.ordered inside) ∙ sym (led_one (span ps start i) (get_or ps i q) rest) in
      record {
        ordered = omega (arith, parted.ordered);
        low = omega (arith, parted.low);
        told = ap (λ x. branches ++ x) (longer ∙ ap (led (span ps start i)) (sym (branches_left false j))) ∙ parted.told;
      }

  -- the beginning of the next branch
  pub parted_at : joins_at d (get_or ps i q).statement ≡ true → AreParted ps (branches ++ span ps start i ∷ []) (i + 1) e (i + 1)
  parted_at j =
      let rest = branches_in e (drop (i + 1) ps) in let mid = span ps start i in
      let plain : (mid ++ []) ∷ rest ≡ mid ∷ rest = ap (λ x. x ∷ rest) (append-nil mid) in
      record {
        ordered = omega arith;
        low = omega (arith, parted.low);
        told = ap (λ x. (branches ++ mid ∷ []) ++ led x rest) (span_none ps (i + 1)) ∙ ap (λ x. (branches ++ mid ∷ []) ++ x) (led_none e (drop (i + 1) ps)) ∙ append_assoc branches (mid ∷ []) rest ∙ ap (λ x. branches ++ x) (sym plain ∙ ap (led mid) (sym (branches_left true j))) ∙ parted.told;
      }

-- all is parted
pub parted_all : (ps : List Placed) (branches : List (List Placed)) (start d i : ℕ) → AreParted ps branches start d i → length ps ≤ i → i ≤ length ps → branches ++ span ps start (length ps) ∷ [] ≡ branches_in 0 ps
unfolding branches_in
parted_all ps branches start d i parted over inside =
    let whole : i ≡ length ps = omega arith in
    let last : led (span ps start i) (branches_in d (drop i ps)) ≡ span ps start (length ps) ∷ [] = ap (λ x. led (span ps start i) (branches_in d x)) (drop_all i ps over) ∙ ap (λ x. x ∷ []) (append-nil (span ps start i) ∙ ap (span ps start) whole) in
    sym (ap (λ x. branches ++ x) last) ∙ parted.told
