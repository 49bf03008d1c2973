-- The text of lines, line by line.
use Rattle.std.proofs.Common.{arith, ℕ, ◌≡◌, ◌+◌, ◌<◌, ◌++◌, List, [], ◌∷◌, length, map, take, get_or, ap, sym, ◌∙◌, refl}
use Rattle.std.proofs.lemmas.List.{append_assoc, length-map, length-take-le, map_more}
use Rattle.std.specs.List.{join_with_byte}
use Rattle.msc_import_notes.specs.Plain.{line_end, own_line, own_lines, part_on}
use Rattle.msc_mermaid.specs.Parts.{Stretch}

-- one more line behind others
ended_more : (y : List ℕ) (ys : List (List ℕ)) (x : List ℕ)
    → join_with_byte 10 ((y ∷ ys) ++ x ∷ []) ≡ join_with_byte 10 (y ∷ ys) ++ (10 ∷ x)
ended_more y [] x = refl
ended_more y (z ∷ zs) x =
    ap (λ v. y ++ (10 ∷ v)) (ended_more z zs x) ∙ sym (append_assoc y (10 ∷ join_with_byte 10 (z ∷ zs)) (10 ∷ x))

-- one more line, behind the end of the one before
joined_more : (lines : List (List ℕ)) (x : List ℕ) (n : ℕ) → length lines ≡ n
    → join_with_byte 10 (lines ++ x ∷ []) ≡ (join_with_byte 10 lines ++ line_end n) ++ x
joined_more [] x n many = grind (arith, many)
joined_more (y ∷ ys) x n many = grind (arith, many, ended_more y ys x, append_assoc (join_with_byte 10 (y ∷ ys)) (10 ∷ []) x)

-- the next line of a list
pub joined_next : {X : Type 0} (f : X → List ℕ) (xs : List X) (i : ℕ) (d : X) → i < length xs
    → join_with_byte 10 (map f (take (i + 1) xs)) ≡ (join_with_byte 10 (map f (take i xs)) ++ line_end i) ++ f (get_or xs i d)
joined_next f xs i d inside =
    let before = map f (take i xs) in
    let many : length before ≡ i = length-map (take i xs) f ∙ length-take-le i xs (omega (arith, inside)) in
    ap (join_with_byte 10) (map_more f xs i d inside) ∙ joined_more before (f (get_or xs i d)) i many

-- one more line of a block
pub own_more : (n : ℕ) (parts : List Stretch) (lines : List (List ℕ)) (l : List ℕ)
    → own_lines n parts (lines ++ l ∷ []) ≡ own_lines n parts lines ++ own_line l (part_on (n + length lines) parts) ∷ []
unfolding own_lines
own_more n parts [] l = grind arith
own_more n parts (x ∷ xs) l = grind (arith, own_more (n + 1) parts xs l)

-- a block has a line for each line of the text
length-own : (n : ℕ) (parts : List Stretch) (lines : List (List ℕ)) → length (own_lines n parts lines) ≡ length lines
unfolding own_lines
length-own n parts [] = refl
length-own n parts (x ∷ xs) = grind (arith, length-own (n + 1) parts xs)

-- the text of these lines of a block, with the next one
pub block_next : {X : Type 0} (f : X → List ℕ) (parts : List Stretch) (xs : List X) (i : ℕ) (d : X) → i < length xs
    → join_with_byte 10 (own_lines 1 parts (map f (take (i + 1) xs))) ≡ (join_with_byte 10 (own_lines 1 parts (map f (take i xs))) ++ line_end i) ++ own_line (f (get_or xs i d)) (part_on (i + 1) parts)
block_next f parts xs i d inside =
    let before = map f (take i xs) in
    let many : length before ≡ i = length-map (take i xs) f ∙ length-take-le i xs (omega (arith, inside)) in
    let more = own_more 1 parts before (f (get_or xs i d)) in
    let on : 1 + length before ≡ i + 1 = omega (arith, many) in
    ap (λ ls. join_with_byte 10 (own_lines 1 parts ls)) (map_more f xs i d inside) ∙ ap (join_with_byte 10) more ∙ joined_more (own_lines 1 parts before) _ i (length-own 1 parts before ∙ many) ∙ ap (λ n. (join_with_byte 10 (own_lines 1 parts before) ++ line_end i) ++ own_line (f (get_or xs i d)) (part_on n parts)) on
