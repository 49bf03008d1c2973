-- A list in which a rule replaces fronts, item by item.
use Rattle.std.proofs.Common.{◌≡◌, ◌<◌, ◌≤◌, ℕ, zero, suc, ◌+◌, ◌-◌, List, [], ◌∷◌, ◌++◌, length, get_or, take, drop, refl, sym, ap, ◌∙◌, append_assoc, arith}
use Rattle.std.proofs.lemmas.List.{append-nil, drop_more, drop_all, take_rest}
use Rattle.msc_spoken.specs.Replacing.{replaced}

module _ (rule : List ℕ → ℕ × ℕ) where
  pub none_replaced : (n : ℕ) → replaced rule n [] ≡ []
  unfolding replaced
  none_replaced n = refl

  pub front_replaced : (x : ℕ) (xs : List ℕ) → replaced rule 0 (x ∷ xs) ≡ (rule (x ∷ xs)).0 ∷ replaced rule (rule (x ∷ xs)).1 xs
  unfolding replaced
  front_replaced x xs = refl

  left_out : (n x : ℕ) (xs : List ℕ) → replaced rule (suc n) (x ∷ xs) ≡ replaced rule n xs
  unfolding replaced
  left_out n x xs = refl

  -- leaving items out is dropping them
  pub replaced_dropped : (n : ℕ) (xs : List ℕ) → replaced rule n xs ≡ replaced rule 0 (drop n xs)
  replaced_dropped zero xs = refl
  replaced_dropped (suc n) [] = none_replaced (suc n) ∙ sym (none_replaced 0)
  replaced_dropped (suc n) (x ∷ xs) = left_out n x xs ∙ replaced_dropped n xs

  less_left : (n x : ℕ) (xs : List ℕ) → 0 < n → replaced rule n (x ∷ xs) ≡ replaced rule (n - 1) xs
  less_left zero x xs some = absurd (omega arith)
  less_left (suc n) x xs some =
      let less : n ≡ suc n - 1 = omega arith in
      left_out n x xs ∙ ap (λ m. replaced rule m xs) less

  module _ (xs : List ℕ) (i : ℕ) where
    -- one item more is left out
    pub one_left_out : (n : ℕ) → i < length xs → 0 < n → replaced rule n (drop i xs) ≡ replaced rule (n - 1) (drop (i + 1) xs)
    one_left_out n inside some =
        ap (replaced rule n) (drop_more xs i 0 inside) ∙ less_left n (get_or xs i 0) (drop (i + 1) xs) some

    -- one front more is replaced
    pub one_replaced : (n : ℕ) (front : ℕ × ℕ) → i < length xs → n ≡ 0 → front ≡ rule (take (length xs - i) (drop i xs)) → replaced rule n (drop i xs) ≡ front.0 ∷ replaced rule front.1 (drop (i + 1) xs)
    one_replaced n front inside none is =
        let here = drop_more xs i 0 inside in
        let same : front ≡ rule (get_or xs i 0 ∷ drop (i + 1) xs) = is ∙ ap rule (take_rest xs i ∙ here) in
        ap (λ m. replaced rule m (drop i xs)) none ∙ ap (replaced rule 0) here ∙ front_replaced (get_or xs i 0) (drop (i + 1) xs) ∙ sym (ap (λ q. q.0 ∷ replaced rule q.1 (drop (i + 1) xs)) same)

    -- no item is left
    pub all_replaced : (n : ℕ) → length xs ≤ i → replaced rule n (drop i xs) ≡ []
    all_replaced n over = ap (replaced rule n) (drop_all i xs over) ∙ none_replaced n

    -- what a loop over the items keeps: what it put so far, and what is put for the rest, are all
    module _ (put : List ℕ) (n : ℕ) (all : List ℕ) (kept : put ++ replaced rule n (drop i xs) ≡ all) where
      pub keeps_left_out : (put' : List ℕ) (n' : ℕ) → i < length xs → 0 < n → put' ≡ put → n' ≡ n - 1 → put' ++ replaced rule n' (drop (i + 1) xs) ≡ all
      keeps_left_out put' n' inside some same less =
          ap (λ m. put' ++ replaced rule m (drop (i + 1) xs)) less ∙ ap (λ p. p ++ replaced rule (n - 1) (drop (i + 1) xs)) same ∙ ap (λ x. put ++ x) (sym (one_left_out n inside some)) ∙ kept

      pub keeps_replaced : (put' : List ℕ) (n' : ℕ) (front : ℕ × ℕ) → i < length xs → n ≡ 0 → front ≡ rule (take (length xs - i) (drop i xs)) → put' ≡ put ++ front.0 ∷ [] → n' ≡ front.1 → put' ++ replaced rule n' (drop (i + 1) xs) ≡ all
      keeps_replaced put' n' front inside none is more next =
          ap (λ m. put' ++ replaced rule m (drop (i + 1) xs)) next ∙ ap (λ p. p ++ replaced rule front.1 (drop (i + 1) xs)) more ∙ append_assoc put (front.0 ∷ []) (replaced rule front.1 (drop (i + 1) xs)) ∙ ap (λ x. put ++ x) (sym (one_replaced n front inside none is)) ∙ kept

      pub keeps_all : length xs ≤ i → put ≡ all
      keeps_all over = sym (append-nil put) ∙ ap (λ x. put ++ x) (sym (all_replaced n over)) ∙ kept
