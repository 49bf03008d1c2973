-- The names of lines, one more at a time.
use Rattle.std.proofs.Common.{◌≡◌, ℕ, ◌+◌, List, [], ◌∷◌, ◌++◌, ap, ap₂, sym, ◌∙◌, add-one, length-append, arith}
use Rattle.std.proofs.lemmas.List.{map-append}
use Rattle.msc_links.specs.declared.line.LineNames.{LineNames}
use Rattle.msc_answer.specs.Linked.{listed_below, AreNames}

-- what a function gives for one more number
more : (f : ℕ → List ℕ) (i : ℕ) (xs : List (List ℕ)) (x : List ℕ) → xs ≡ listed_below f i → x ≡ f i → xs ++ (x ∷ []) ≡ listed_below f (i + 1)
more f i xs x so_far next =
    ap₂ (λ (l : List (List ℕ)) (y : List ℕ). l ++ (y ∷ [])) so_far next ∙ sym (ap (listed_below f) (add-one i))

-- the names of one more line
pub next_names : (own shown made : ℕ → List ℕ) (i : ℕ) (names : List LineNames) (n : LineNames) → AreNames own shown made i names
    → n.own.now ≡ own i → n.shown.now ≡ shown i → n.made.now ≡ made i → AreNames own shown made (i + 1) (names ++ (n ∷ []))
next_names own shown made i names n are of_own of_shown of_made = record {
  count_is = let long = are.count_is in omega (arith, long, length-append names (n ∷ []));
  own_are = map-append (λ (m : LineNames). m.own.now) names (n ∷ []) ∙ more own i _ _ are.own_are of_own;
  shown_are = map-append (λ (m : LineNames). m.shown.now) names (n ∷ []) ∙ more shown i _ _ are.shown_are of_shown;
  made_are = map-append (λ (m : LineNames). m.made.now) names (n ∷ []) ∙ more made i _ _ are.made_are of_made;
}
