-- Lists that are made number by number, or item by item.
use Rattle.std.proofs.Common.{◌≡◌, ℕ, zero, suc, ◌+◌, ◌<◌, Bool, cond, List, [], ◌∷◌, ◌++◌, length, get_or, map, filter, take, drop, fold, refl, sym, ap, ◌∙◌, append_assoc, append-nil, arith}
use Rattle.std.specs.List.{range_with_len, flat_map}
use Rattle.std.proofs.lemmas.List.Sums.{fold_more}
use Rattle.std.proofs.lemmas.List.FromFn.{map-range_with_len_more}
use Rattle.std.proofs.lemmas.Grind.{flat_map-append}
use Rattle.std.proofs.lemmas.List.Elements.{filter-append}
use Rattle.std.proofs.lemmas.List.{get_or_default}
use Rattle.msc_chart.proofs.EndLemmas.{drop-at as drop_next}

-- a range with its last number apart
range_last : (a n j : ℕ) → a + n ≡ j → range_with_len a (suc n) ≡ range_with_len a n ++ j ∷ []
range_last a zero j e = let same : a ≡ j = omega arith in ap (λ k. k ∷ []) same
range_last a (suc n) j e = ap (λ l. a ∷ l) (range_last (a + 1) n j (omega arith))

-- one more number
pub range_more : (a n j : ℕ) → a + n ≡ j → range_with_len a (n + 1) ≡ range_with_len a n ++ j ∷ []
range_more a n j e =
    let on : n + 1 ≡ suc n = omega arith in ap (range_with_len a) on ∙ range_last a n j e

-- a fold over one more item
fold_push : {A B : Type 0} (f : B → A → B) (z : B) (xs : List A) (x : A)
    → fold f z (xs ++ x ∷ []) ≡ f (fold f z xs) x
fold_push f z [] x = refl
fold_push f z (y ∷ ys) x = fold_push f (f z y) ys x

-- one more value of a function
pub map_next : {X : Type 0} (f : ℕ → X) (n : ℕ) (xs next : List X) (x : X)
    → xs ≡ map f (range_with_len 0 n) → x ≡ f n → next ≡ xs ++ x ∷ []
    → next ≡ map f (range_with_len 0 (n + 1))
map_next {X} f n xs next x so_far is more =
    more ∙ ap (λ (l : List X). l ++ x ∷ []) so_far
    ∙ ap (λ (y : X). map f (range_with_len 0 n) ++ y ∷ []) is
    ∙ sym (map-range_with_len_more f 0 n n (omega arith))

-- one more number of a fold
pub fold_next : {B : Type 0} (f : B → ℕ → B) (z : B) (a n j : ℕ) (now next : B)
    → a + n ≡ j → now ≡ fold f z (range_with_len a n) → next ≡ f now j
    → next ≡ fold f z (range_with_len a (n + 1))
fold_next {B} f z a n j now next at so_far more =
    more ∙ ap (λ (b : B). f b j) so_far ∙ sym (fold_push f z (range_with_len a n) j)
    ∙ ap (fold f z) (sym (range_more a n j at))

-- one more item of a fold
pub fold_item : {A B : Type 0} (f : B → A → B) (z : B) (xs : List A) (k : ℕ) (x : A) (now next : B)
    → k < length xs → x ≡ get_or xs k x → now ≡ fold f z (take k xs) → next ≡ f now x
    → next ≡ fold f z (take (k + 1) xs)
fold_item {A} {B} f z xs k x now next below is so_far more =
    more ∙ ap (λ (b : B). f b x) so_far ∙ ap (f (fold f z (take k xs))) is
    ∙ sym (fold_more f z xs k x below)

-- the items of one more number
pub flat_next : {X : Type 0} (f : ℕ → List X) (n : ℕ) (xs next : List X)
    → xs ≡ flat_map f (range_with_len 0 n) → next ≡ xs ++ f n
    → next ≡ flat_map f (range_with_len 0 (n + 1))
flat_next {X} f n xs next so_far more =
    more ∙ ap (λ (l : List X). l ++ f n) so_far
    ∙ ap (λ (l : List X). flat_map f (range_with_len 0 n) ++ l) (sym (append-nil (f n)))
    ∙ sym (flat_map-append f (range_with_len 0 n) (n ∷ []))
    ∙ ap (flat_map f) (sym (range_more 0 n n (omega arith)))

-- the same, behind other items
pub flat_behind : {X : Type 0} (f : ℕ → List X) (n : ℕ) (base now next : List X)
    → now ≡ base ++ flat_map f (range_with_len 0 n) → next ≡ now ++ f n
    → next ≡ base ++ flat_map f (range_with_len 0 (n + 1))
flat_behind {X} f n base now next so_far more =
    more ∙ ap (λ (l : List X). l ++ f n) so_far
    ∙ append_assoc base (flat_map f (range_with_len 0 n)) (f n)
    ∙ ap (λ (l : List X). base ++ l) (flat_next f n _ _ refl refl)

-- one more number that may pass
pub filter_next : (p : ℕ → Bool) (n : ℕ) (now next : List ℕ) → now ≡ filter p (range_with_len 0 n)
    → next ≡ now ++ cond (p n) (n ∷ []) [] → next ≡ filter p (range_with_len 0 (n + 1))
filter_next p n now next so_far more =
    more ∙ ap (λ (l : List ℕ). l ++ cond (p n) (n ∷ []) []) so_far
    ∙ sym (filter-append p (range_with_len 0 n) (n ∷ []))
    ∙ ap (filter p) (sym (range_more 0 n n (omega arith)))

-- the same, with another default
pub drop_at : {X : Type 0} (xs : List X) (k : ℕ) (d : X) → k < length xs
    → drop k xs ≡ get_or xs k d ∷ drop (k + 1) xs
drop_at xs k d below = drop_next xs k (get_or xs k d) below (get_or_default xs k d (get_or xs k d) below)
