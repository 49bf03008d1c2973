-- Names of a command line, at their places.
use Rattle.std.proofs.Common.{◌≡◌, ℕ, ◌+◌, ◌<◌, Bool, false, List, [], ◌∷◌, ◌++◌, length, get_or, map, sym, ap, ◌∙◌, subst, inl, inr, arith}
use Rattle.std.specs.Borrow.{Bor}
use Rattle.std.specs.Prelude.{option_map, unwrap_or, IsTrue, Option, ◌↔◌}
use Rattle.std.proofs.lemmas.Bool.{cases_lt}
use Rattle.std.proofs.lemmas.Option.{slice_get-get_or, slice_get-map, slice_get_within}
use Rattle.std.proofs.lemmas.List.{get_or_append_left}
use Rattle.std.proofs.Math.Seq.{get_or-append_seam}
use Rattle.msc_chart.specs.Lists.{Occurs, StandsAt}

module _ (names : List (Bor (List ℕ))) (i : ℕ) (d : Bor (List ℕ)) (within : i < length names) where
  -- the name at a place stands there
  pub name_at : StandsAt (map (λ name. name.now) names) i (get_or names i d).now
  name_at = slice_get-map (λ (name : Bor (List ℕ)). name.now) names i ∙ ap (option_map (λ (name : Bor (List ℕ)). name.now)) (slice_get-get_or names i d within)

  -- and no other one
  pub name_only : (other : List ℕ) → StandsAt (map (λ name. name.now) names) i other → other ≡ (get_or names i d).now
  name_only other there = ap (λ (o : Option (List ℕ)). unwrap_or o other) (sym there ∙ name_at)

  -- what is so of the names so far and of this one is so of one name more
  pub names_more : (P : List ℕ → Type 0) → ((k : ℕ) → k < i → (other : List ℕ) → StandsAt (map (λ name. name.now) names) k other → P other)
      → P (get_or names i d).now → (k : ℕ) → k < i + 1 → (other : List ℕ) → StandsAt (map (λ name. name.now) names) k other → P other
  names_more P before own k below other there =
      elim (cases_lt k i) [
        | inl less ↦ before k less other there
        | inr past ↦
            let same : k ≡ i = omega (arith, below, past) in
            subst P (sym (name_only other (subst (λ (n : ℕ). StandsAt (map (λ name. name.now) names) n other) same there))) own
      ]

-- what is said of the instances so far and of the next one is said of one instance more
pub lines_more : (instances names : List (List ℕ)) (lines : List Bool) (i : ℕ) (own : Bool) → length lines ≡ i
    → ((k : ℕ) → k < i → IsTrue (get_or lines k false) ↔ Occurs names (get_or instances k []))
    → IsTrue own ↔ Occurs names (get_or instances i [])
    → (k : ℕ) → k < i + 1 → IsTrue (get_or (lines ++ own ∷ []) k false) ↔ Occurs names (get_or instances k [])
lines_more instances names lines i own size before told k below =
    elim (cases_lt k i) [
      | inl less ↦ subst (λ (b : Bool). IsTrue b ↔ Occurs names (get_or instances k [])) (sym (get_or_append_left lines (own ∷ []) false k (omega (arith, less, size)))) (before k less)
      | inr past ↦
          let same : k ≡ i = omega (arith, below, past) in
          let seam : get_or (lines ++ own ∷ []) i false ≡ own = ap (λ (n : ℕ). get_or (lines ++ own ∷ []) n false) (sym size) ∙ get_or-append_seam lines own [] false in
          subst (λ (n : ℕ). IsTrue (get_or (lines ++ own ∷ []) n false) ↔ Occurs names (get_or instances n [])) (sym same)
          (subst (λ (b : Bool). IsTrue b ↔ Occurs names (get_or instances i [])) (sym seam) told)
    ]

-- the name of an instance that is there
pub named_there : (instances : List (List ℕ)) (i : ℕ) (name : List ℕ) → StandsAt instances i name → name ≡ get_or instances i []
named_there instances i name there =
    ap (λ (o : Option (List ℕ)). unwrap_or o name) (sym there ∙ slice_get-get_or instances i [] (slice_get_within instances i name there))
