-- What all parts say, one part more.
use Rattle.std.proofs.Common.{◌≡◌, ◌<◌, ◌≤◌, ℕ, ◌+◌, List, [], ◌∷◌, ◌++◌, Option, None, Some, option_map, length, get_or, drop, map, refl, ap, sym, ◌∙◌}
use Rattle.std.specs.Borrow.{Bor}
use Rattle.std.proofs.lemmas.List.{append_assoc, append-nil, at_drop_more, drop_all}
use Rattle.msc_arrow_marks.specs.Heads.{all_of, in_front}

module _ {A : Type 0} (says : List ℕ → Option A) where
  all_of_nothing : all_of says [] ≡ Some []
  unfolding all_of
  all_of_nothing = refl

  all_of_cons : (part : List ℕ) (parts : List (List ℕ)) → all_of says (part ∷ parts) ≡ in_front (says part) (all_of says parts)
  unfolding all_of
  all_of_cons part parts = refl

  -- what was met, and then what the rest says
  abbrev pub met : List A → List (Bor (List ℕ)) → Option (List A)
  met them parts = option_map (λ others. them ++ others) (all_of says (map (λ (part : Bor (List ℕ)). part.now) parts))

  same : (found : Option (List A)) → option_map (λ others. [] ++ others) found ≡ found
  same None = refl
  same (Some others) = refl

  -- nothing was met
  pub met_none : (parts : List (Bor (List ℕ))) → met [] parts ≡ all_of says (map (λ (part : Bor (List ℕ)). part.now) parts)
  met_none parts = same (all_of says (map (λ (part : Bor (List ℕ)). part.now) parts))

  one_more : (them : List A) (one : A) (found : Option (List A)) → option_map (λ others. them ++ others) (in_front (Some one) found) ≡ option_map (λ others. (them ++ one ∷ []) ++ others) found
  one_more them one None = refl
  one_more them one (Some others) = ap Some (sym (append_assoc them (one ∷ []) others))

  module _ (them : List A) (parts : List (Bor (List ℕ))) (i : ℕ) where
    module _ (d : Bor (List ℕ)) (inside : i < length parts) where
      next : met them (drop i parts) ≡ option_map (λ others. them ++ others) (in_front (says (get_or parts i d).now) (all_of says (map (λ (part : Bor (List ℕ)). part.now) (drop (i + 1) parts))))
      next = at_drop_more (met them) parts i d inside ∙ ap (option_map (λ others. them ++ others)) (all_of_cons (get_or parts i d).now (map (λ (part : Bor (List ℕ)). part.now) (drop (i + 1) parts)))

      -- the next part says this
      pub met_more : (one : A) → says (get_or parts i d).now ≡ Some one → met them (drop i parts) ≡ met (them ++ one ∷ []) (drop (i + 1) parts)
      met_more one is = next ∙ ap (λ s. option_map (λ others. them ++ others) (in_front s (all_of says (map (λ (part : Bor (List ℕ)). part.now) (drop (i + 1) parts))))) is
          ∙ one_more them one (all_of says (map (λ (part : Bor (List ℕ)). part.now) (drop (i + 1) parts)))

      -- the next part says nothing
      pub met_fails : says (get_or parts i d).now ≡ None → met them (drop i parts) ≡ None
      met_fails is = next ∙ ap (λ s. option_map (λ others. them ++ others) (in_front s (all_of says (map (λ (part : Bor (List ℕ)). part.now) (drop (i + 1) parts))))) is

    -- no part is left
    pub met_all : length parts ≤ i → met them (drop i parts) ≡ Some them
    met_all over = ap (met them) (drop_all i parts over) ∙ ap (option_map (λ others. them ++ others)) all_of_nothing ∙ ap Some (append-nil them)
