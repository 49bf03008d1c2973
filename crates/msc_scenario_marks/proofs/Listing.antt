-- Numbers that pass a test, one by one.
use Rattle.std.proofs.Common.{◌≡◌, ℕ, ◌+◌, Bool, true, false, cond, List, [], ◌∷◌, ◌++◌, sym, ap, ◌∙◌, arith}
use Rattle.std.specs.List.{filter, range_with_len}
use Rattle.std.proofs.lemmas.List.{append-nil, map-id}
use Rattle.std.proofs.lemmas.List.FromFn.{filter_of_map_range_with_len_more}

module _ (test : ℕ → Bool) where
  -- below one more
  filter_more : (k : ℕ) → filter test (range_with_len 0 (k + 1)) ≡ filter test (range_with_len 0 k) ++ cond (test k) (k ∷ []) []
  filter_more k =
      ap (filter test) (sym (map-id (range_with_len 0 (k + 1))))
      ∙ filter_of_map_range_with_len_more test (λ n. n) 0 k k (omega arith)
      ∙ ap (λ l. filter test l ++ cond (test k) (k ∷ []) []) (map-id (range_with_len 0 k))

  -- it passes
  pub one_kept : (k : ℕ) (list : List ℕ) → list ≡ filter test (range_with_len 0 k) → test k ≡ true
      → list ++ k ∷ [] ≡ filter test (range_with_len 0 (k + 1))
  one_kept k list so_far is =
      ap (λ l. l ++ k ∷ []) so_far ∙ ap (λ b. filter test (range_with_len 0 k) ++ cond b (k ∷ []) []) (sym is) ∙ sym (filter_more k)

  -- it does not
  pub one_passed : (k : ℕ) (list : List ℕ) → list ≡ filter test (range_with_len 0 k) → test k ≡ false
      → list ≡ filter test (range_with_len 0 (k + 1))
  one_passed k list so_far is =
      so_far ∙ sym (append-nil (filter test (range_with_len 0 k)))
      ∙ ap (λ b. filter test (range_with_len 0 k) ++ cond b (k ∷ []) []) (sym is) ∙ sym (filter_more k)
