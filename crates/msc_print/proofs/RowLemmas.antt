-- The rows of pairs, as they are printed.
use Rattle.std.proofs.Common.{◌≡◌, suc, zero, ℕ, ◌+◌, ◌-◌, ◌<◌, ◌≤◌, List, [], ◌∷◌, ◌++◌, length, take, get_or, refl, sym, ap, ◌∙◌, subst, append_assoc, arith}
use Rattle.std.specs.List.{flat_map, range_with_len}
use Rattle.std.proofs.lemmas.List.{append-nil, take_more, flat_map_more, map-id}
use Rattle.std.proofs.lemmas.List.FromFn.{map-range_with_len_more}
use Rattle.msc_print.specs.Printed.{Printed}
use Rattle.msc_print.specs.Prints.{Prints}
use Rattle.msc_print.specs.Rows.{below, count_after, rows_from}
use Rattle.msc_print.proofs.PrintLemmas.{prints_then}

-- one event more brings its own pairs
pub below_more : (from : ℕ → List (ℕ × ℕ)) (k : ℕ) → below from (k + 1) ≡ below from k ++ from k
below_more from k =
    ap (λ (l : List ℕ). flat_map from l) (range_more k)
    ∙ sym (flat_map_more from [] (range_with_len 0 k) k)
  where
    -- one number more comes last in the range
    range_more : (k : ℕ) → range_with_len 0 (k + 1) ≡ range_with_len 0 k ++ k ∷ []
    range_more k = sym (map-id (range_with_len 0 (k + 1))) ∙ map-range_with_len_more (λ x. x) 0 k k (omega arith) ∙ ap (λ l. l ++ k ∷ []) (map-id (range_with_len 0 k))

-- the pairs of more events begin with those of fewer
below_rest : (from : ℕ → List (ℕ × ℕ)) (k j : ℕ) → (rest : List (ℕ × ℕ)) × (below from (k + j) ≡ below from k ++ rest)
below_rest from k zero = let same : k + zero ≡ k = omega arith in ([], ap (below from) same ∙ sym (append-nil (below from k)))
below_rest from k (suc j) =
    let before = below_rest from k j in
    let same : k + suc j ≡ k + j + 1 = omega arith in (
      before.0 ++ from (k + j),
      rw same (below_more from (k + j) ∙ ap (λ (l : List (ℕ × ℕ)). l ++ from (k + j)) before.1
          ∙ append_assoc (below from k) before.0 (from (k + j))),
    )

-- so those of all events begin with those of the events below one of them
pub below_first : (from : ℕ → List (ℕ × ℕ)) (k n : ℕ) → k ≤ n → (rest : List (ℕ × ℕ)) × (below from n ≡ below from k ++ rest)
below_first from k n le =
    let more = below_rest from k (n - k) in
    let same : n ≡ k + (n - k) = omega arith in
    (more.0, ap (below from) same ∙ more.1)

module _ (after : ℕ → ℕ × ℕ → ℕ) where
  -- the count after some pairs and then others
  pub count_append : (n : ℕ) (xs ys : List (ℕ × ℕ)) → count_after after n (xs ++ ys) ≡ count_after after (count_after after n xs) ys
  count_append n [] ys = refl
  count_append n (x ∷ xs) ys = count_append (after n x) xs ys

  module _ (row : ℕ → ℕ × ℕ → List ℕ) where
    -- the rows of some pairs and then others
    pub rows_append : (n : ℕ) (xs ys : List (ℕ × ℕ)) → rows_from row after n (xs ++ ys) ≡ rows_from row after n xs ++ rows_from row after (count_after after n xs) ys
    rows_append n [] ys = refl
    rows_append n (x ∷ xs) ys =
        ap (λ (t : List ℕ). row n x ++ t) (rows_append (after n x) xs ys)
        ∙ sym (append_assoc (row n x) (rows_from row after (after n x) xs) (rows_from row after (count_after after (after n x) xs) ys))

    -- the rows of some pairs are printed, and then those of others
    pub prints_more : (a b c : Printed) (n m : ℕ) (xs ys zs : List (ℕ × ℕ)) → zs ≡ xs ++ ys → m ≡ count_after after n xs
        → Prints a b (rows_from row after n xs) → Prints b c (rows_from row after m ys) → Prints a c (rows_from row after n zs)
    prints_more a b c n m xs ys zs same is before then =
        let whole = ap (rows_from row after n) same ∙ rows_append n xs ys ∙ ap (λ (k : ℕ). rows_from row after n xs ++ rows_from row after k ys) (sym is) in
        subst (Prints a c) (sym whole) (prints_then a b c (rows_from row after n xs) (rows_from row after m ys) before then)

    -- the row of one pair more is printed
    pub prints_next : (a b c : Printed) (n m i : ℕ) (xs : List (ℕ × ℕ)) → i < length xs → m ≡ count_after after n (take i xs)
        → Prints a b (rows_from row after n (take i xs)) → Prints b c (row m (get_or xs i (0, 0))) → Prints a c (rows_from row after n (take (i + 1) xs))
    prints_next a b c n m i xs inside is before then =
        prints_more a b c n m (take i xs) (get_or xs i (0, 0) ∷ []) _ (take_more xs i (0, 0) inside) is
        before (subst (Prints b c) (sym (append-nil (row m (get_or xs i (0, 0))))) then)

  -- the count after one pair more
  pub count_next : (n m i : ℕ) (xs : List (ℕ × ℕ)) → i < length xs → m ≡ count_after after n (take i xs) → after m (get_or xs i (0, 0)) ≡ count_after after n (take (i + 1) xs)
  count_next n m i xs inside is =
      ap (λ (k : ℕ). after k (get_or xs i (0, 0))) is ∙ sym (count_append n (take i xs) (get_or xs i (0, 0) ∷ []))
      ∙ ap (count_after after n) (sym (take_more xs i (0, 0) inside))

  -- The pairs of a source, event by event.
  module _ (from : ℕ → List (ℕ × ℕ)) where
    -- the count after the pairs of one event more
    pub count_event : (k n m : ℕ) (list : List (ℕ × ℕ)) → m ≡ count_after after n (below from k) → list ≡ from k → count_after after m list ≡ count_after after n (below from (k + 1))
    count_event k n m list is same =
        ap (λ (j : ℕ). count_after after j list) is ∙ ap (count_after after (count_after after n (below from k))) same
        ∙ sym (count_append n (below from k) (from k)) ∙ ap (count_after after n) (sym (below_more from k))

    -- if all further pairs leave the count, it is that of all pairs
    pub count_rest : (k size n m : ℕ) → k ≤ size → m ≡ count_after after n (below from k) → ((ys : List (ℕ × ℕ)) → count_after after m ys ≡ m) → m ≡ count_after after n (below from size)
    count_rest k size n m le is stays =
        let all = below_first from k size le in
        sym (stays all.0) ∙ ap (λ (j : ℕ). count_after after j all.0) is ∙ sym (count_append n (below from k) all.0) ∙ ap (count_after after n) (sym all.1)

    module _ (row : ℕ → ℕ × ℕ → List ℕ) (a b c : Printed) where
      -- the rows of the pairs of one event more are printed
      pub prints_event : (k n m : ℕ) (list : List (ℕ × ℕ)) → m ≡ count_after after n (below from k) → list ≡ from k
          → Prints a b (rows_from row after n (below from k)) → Prints b c (rows_from row after m list) → Prints a c (rows_from row after n (below from (k + 1)))
      prints_event k n m list is same before then =
          prints_more row a b c n m (below from k) list _ (below_more from k ∙ ap (λ (l : List (ℕ × ℕ)). below from k ++ l) (sym same)) is before then

      -- whatever follows the rows of some events, the rows of all are printed
      pub prints_rest : (k size n m : ℕ) → k ≤ size → m ≡ count_after after n (below from k) → Prints a b (rows_from row after n (below from k))
          → ((ys : List (ℕ × ℕ)) → Prints b c (rows_from row after m ys)) → Prints a c (rows_from row after n (below from size))
      prints_rest k size n m le is before then =
          let all = below_first from k size le in
          prints_more row a b c n m (below from k) all.0 _ all.1 is before (then all.0)
