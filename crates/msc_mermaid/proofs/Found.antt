-- Looking for the first item that passes a test.
use Rattle.std.proofs.Common.{◌≡◌, ◌<◌, ℕ, ◌+◌, Bool, true, false, cond, List, length, get_or, drop, Some, find, ap, ◌∙◌}
use Rattle.std.proofs.lemmas.List.{drop_more}

module _ {A : Type 0} (p : A → Bool) (xs : List A) (i : ℕ) (d : A) (inside : i < length xs) where
  -- the next one passes
  pub found : p (get_or xs i d) ≡ true → find p (drop i xs) ≡ Some (get_or xs i d)
  found passes = ap (find p) (drop_more xs i d inside) ∙ ap (λ b. cond b (Some (get_or xs i d)) (find p (drop (i + 1) xs))) passes

  -- the next one does not
  pub missed : p (get_or xs i d) ≡ false → find p (drop i xs) ≡ find p (drop (i + 1) xs)
  missed fails = ap (find p) (drop_more xs i d inside) ∙ ap (λ b. cond b (Some (get_or xs i d)) (find p (drop (i + 1) xs))) fails
