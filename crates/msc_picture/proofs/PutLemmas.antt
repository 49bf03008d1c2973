-- Signs after one more instance.
use Rattle.std.proofs.Common.{◌≡◌, ℕ, ◌<◌, Bool, ◌&&◌, ◌||◌, List, [], ◌∷◌, ◌++◌, length, get_or, map, nat_eq, inl, inr, sym, ap, ◌∙◌, arith, Vec, Global}
use Rattle.std.specs.Prelude.{slice_set}
use Rattle.std.specs.List.{list_any}
use Rattle.std.proofs.Math.Bool.{or-false}
use Rattle.std.proofs.lemmas.Bool.{cases_eq, eq-eqb, ne_eqb}
use Rattle.std.proofs.lemmas.List.{get_or-map, get_or-set_other, get_or-set_same, length-map, map-set}
use Rattle.std.proofs.lemmas.List.Folds.{list_any-append}
use Rattle.msc_picture.specs.Signs.{has_at}

-- one more instance at a place
pub put_more : (signs : List (Vec ℕ Global)) (e : ℕ) (old new : Vec ℕ Global) (instance : ℕ)
    → e < length signs → old ≡ get_or signs e old → new.items ≡ old.items ++ instance ∷ []
    → (x i : ℕ)
    → has_at (slice_set signs e new) x i
    ≡ (has_at signs x i || (nat_eq x e && nat_eq i instance))
put_more signs e old new instance below is more x i =
    let items = λ (l : Vec ℕ Global). l.items in
    let lists = map items signs in
    let own = nat_eq i instance in
    let moved : map items (slice_set signs e new) ≡ slice_set lists e new.items =
    map-set items signs e new in
    ap (λ (l : List (List ℕ)). list_any (nat_eq i) (get_or l x [])) moved ∙ elim (cases_eq x e) [
      | inl same ↦
          let inside : e < length lists = omega (arith, below, length-map signs items) in
          let before : old.items ≡ get_or lists e [] =
          ap items is ∙ sym (get_or-map items signs e old [] below) in
          ap (λ (k : ℕ). list_any (nat_eq i) (get_or (slice_set lists e new.items) k [])) same
          ∙ ap (list_any (nat_eq i)) (get_or-set_same lists e new.items [] inside ∙ more
          ∙ ap (λ (l : List ℕ). l ++ instance ∷ []) before)
          ∙ list_any-append (nat_eq i) (get_or lists e []) (instance ∷ [])
          ∙ ap (λ (b : Bool). has_at signs e i || b) (or-false own)
          ∙ ap (λ (k : ℕ). has_at signs k i || own) (sym same)
          ∙ ap (λ (b : Bool). has_at signs x i || (b && own)) (sym (eq-eqb x e same))
      | inr other ↦
          ap (list_any (nat_eq i)) (get_or-set_other lists e x new.items [] other)
          ∙ sym (or-false (has_at signs x i))
          ∙ ap (λ (b : Bool). has_at signs x i || (b && own)) (sym (ne_eqb x e other))
    ]
