-- Numbered rows.
use Rattle.std.proofs.Common.{◌≡◌, ◌<◌, ℕ, ◌+◌, List, [], ◌∷◌, ◌++◌, length, map, get_or, take, ap, ◌∙◌, arith}
use Rattle.std.proofs.lemmas.List.{length-take-le, map-append, take_more}
use Rattle.std.specs.List.{enumerate_from}

-- the items of two lists, numbered through
numbered_through : {X : Type 0} (n : ℕ) (xs ys : List X)
    → enumerate_from n (xs ++ ys) ≡ enumerate_from n xs ++ enumerate_from (n + length xs) ys
numbered_through n [] ys = ap (λ m. enumerate_from m ys) (let same : n ≡ n + 0 = omega arith in same)
numbered_through n (x ∷ xs) ys =
    let same : n + 1 + length xs ≡ n + length (x ∷ xs) = omega arith in
    ap (λ l. (n, x) ∷ l) (numbered_through (n + 1) xs ys ∙ ap (λ m. enumerate_from (n + 1) xs ++ enumerate_from m ys) same)

-- one item more has a row
pub one_more_row : {X : Type 0} (row : ℕ × X → List ℕ) (xs : List X) (i : ℕ) (d : X) → i < length xs
    → map row (enumerate_from 1 (take (i + 1) xs)) ≡ map row (enumerate_from 1 (take i xs)) ++ row (i + 1, get_or xs i d) ∷ []
one_more_row row xs i d inside =
    let x = get_or xs i d in let before = enumerate_from 1 (take i xs) in
    let number : 1 + length (take i xs) ≡ i + 1 = ap (λ n. 1 + n) (length-take-le i xs (omega (arith, inside))) ∙ omega arith in
    ap (λ l. map row (enumerate_from 1 l)) (take_more xs i d inside)
    ∙ ap (map row) (numbered_through 1 (take i xs) (x ∷ []))
    ∙ map-append row before ((1 + length (take i xs), x) ∷ [])
    ∙ ap (λ n. map row before ++ row (n, x) ∷ []) number
