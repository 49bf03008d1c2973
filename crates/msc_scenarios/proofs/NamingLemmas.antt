-- Passes over bytes of which a name is made.
use Rattle.std.proofs.Common.{◌≡◌, ◌<◌, ◌≤◌, ℕ, suc, ◌+◌, ◌-◌, true, false, cond, List, [], ◌∷◌, ◌++◌, length, get_or, take, drop, Option, refl, sym, ap, ◌∙◌}
use Rattle.std.proofs.lemmas.List.{drop_more, drop_all, take_rest}
use Rattle.msc_scenarios.specs.declared.naming.Pass.{Pass}
use Rattle.std.specs.Prelude.{codes}
use Rattle.msc_scenarios.specs.Naming.{pass_step, passed, put_first, made, candidate, is_taken, free_name, names_behind}

passed_cons : (p : Pass) (s b : ℕ) (bs : List ℕ) → passed p s (b ∷ bs) ≡ put_first (pass_step p s b bs).0 (passed p (pass_step p s b bs).1 bs)
unfolding passed
passed_cons p s b bs = refl

passed_none : (p : Pass) (s : ℕ) → passed p s [] ≡ []
unfolding passed
passed_none p s = refl

module _ (p : Pass) (s : ℕ) (bytes : List ℕ) (i : ℕ) where
  -- one byte more
  pub pass_more : (put : Option ℕ) (next : ℕ) → i < length bytes → (put, next) ≡ pass_step p s (get_or (take (length bytes - i) (drop i bytes)) 0 0) (drop 1 (take (length bytes - i) (drop i bytes))) → passed p s (drop i bytes) ≡ put_first put (passed p next (drop (i + 1) bytes))
  pass_more put next inside e =
      let here = drop_more bytes i 0 inside in
      let at = take_rest bytes i ∙ here in
      let same : (put, next) ≡ pass_step p s (get_or bytes i 0) (drop (i + 1) bytes) = e ∙ ap (λ x. pass_step p s (get_or x 0 0) (drop 1 x)) at in
      ap (passed p s) here ∙ passed_cons p s (get_or bytes i 0) (drop (i + 1) bytes) ∙ sym (ap (λ q. put_first q.0 (passed p q.1 (drop (i + 1) bytes))) same)

  -- no byte is left
  pub pass_end : length bytes ≤ i → passed p s (drop i bytes) ≡ []
  pass_end over = ap (passed p s) (drop_all i bytes over) ∙ passed_none p s

-- one candidate more
module _ (names : List (List ℕ)) (name : List ℕ) (k m n : ℕ) (left : m ≡ suc n) where
  free_step : free_name names name k m ≡ cond (is_taken names (candidate name k)) (free_name names name (k + 1) n) (candidate name k)
  unfolding free_name
  free_step = ap (free_name names name k) left

  pub free_here : is_taken names (candidate name k) ≡ false → free_name names name k m ≡ candidate name k
  free_here e = free_step ∙ ap (λ b. cond b (free_name names name (k + 1) n) (candidate name k)) e

  pub free_on : is_taken names (candidate name k) ≡ true → free_name names name k m ≡ free_name names name (k + 1) n
  free_on e = free_step ∙ ap (λ b. cond b (free_name names name (k + 1) n) (candidate name k)) e

pub free_none : (names : List (List ℕ)) (name : List ℕ) (k m : ℕ) → m ≡ 0 → free_name names name k m ≡ name
unfolding free_name
free_none names name k m left = ap (free_name names name k) left

names_cons : (names : List (List ℕ)) (ident : List ℕ) (idents : List (List ℕ)) → names_behind names (ident ∷ idents) ≡ names_behind (names ++ free_name names (made ident (codes "p")) 1 (length names + 1) ∷ []) idents
unfolding names_behind
names_cons names ident idents = refl

names_none : (names : List (List ℕ)) → names_behind names [] ≡ names
unfolding names_behind
names_none names = refl

-- one name more
module _ (names : List (List ℕ)) (idents : List (List ℕ)) (i : ℕ) where
  pub names_more : (d : List ℕ) → i < length idents → names_behind names (drop i idents) ≡ names_behind (names ++ free_name names (made (get_or idents i d) (codes "p")) 1 (length names + 1) ∷ []) (drop (i + 1) idents)
  names_more d inside = ap (names_behind names) (drop_more idents i d inside) ∙ names_cons names (get_or idents i d) (drop (i + 1) idents)

  pub names_end : length idents ≤ i → names_behind names (drop i idents) ≡ names
  names_end over = ap (names_behind names) (drop_all i idents over) ∙ names_none names
