-- Lists that are made number by number, and the lines of nodes.
use Rattle.std.proofs.Common.{◌≡◌, ℕ, zero, suc, ◌+◌, ◌<◌, List, [], ◌∷◌, ◌++◌, map, take, length, get_or, sym, ap, ◌∙◌, append_assoc, append-nil, arith}
use Rattle.std.specs.List.{range_with_len, flat_map}
use Rattle.std.proofs.lemmas.List.{take_more, map-append}
use Rattle.std.proofs.lemmas.List.FromFn.{map-range_with_len_more}
use Rattle.std.proofs.lemmas.Grind.{flat_map-append}
use Rattle.msc_tree.specs.Trees.{Node, line_text, lines_text}

-- a range with its last number apart
pub range_last : (n : ℕ) (a j : ℕ) → a + n ≡ j → range_with_len a (suc n) ≡ range_with_len a n ++ j ∷ []
range_last zero a j e = let same : a ≡ j = omega arith in ap (λ k. k ∷ []) same
range_last (suc n) a j e = ap (λ l. a ∷ l) (range_last n (a + 1) j (omega arith))

-- one more number
pub range_more : (n : ℕ) → range_with_len 0 (n + 1) ≡ range_with_len 0 n ++ n ∷ []
range_more n =
    let on : n + 1 ≡ suc n = omega arith in
    ap (range_with_len 0) on ∙ range_last n 0 n (omega arith)

-- the lines of nodes behind others
pub lines_append : (xs ys : List Node) → lines_text (xs ++ ys) ≡ lines_text xs ++ lines_text ys
lines_append xs ys = flat_map-append line_text xs ys

-- the line of one node
pub one_line : (x : Node) → lines_text (x ∷ []) ≡ line_text x
one_line x = append-nil (line_text x)

-- lines, and the lines of further nodes behind them
pub lines_behind : (base now next : List ℕ) (xs ys : List Node) → now ≡ base ++ lines_text xs
    → next ≡ now ++ lines_text ys → next ≡ base ++ lines_text (xs ++ ys)
lines_behind base now next xs ys so_far more =
    more ∙ ap (λ (l : List ℕ). l ++ lines_text ys) so_far
    ∙ append_assoc base (lines_text xs) (lines_text ys)
    ∙ ap (λ (l : List ℕ). base ++ l) (sym (lines_append xs ys))

-- the lines of the nodes of one more number
pub lines_next : (f : ℕ → List Node) (n : ℕ) (base now next : List ℕ)
    → now ≡ base ++ lines_text (flat_map f (range_with_len 0 n)) → next ≡ now ++ lines_text (f n)
    → next ≡ base ++ lines_text (flat_map f (range_with_len 0 (n + 1)))
lines_next f n base now next so_far more =
    lines_behind base now next (flat_map f (range_with_len 0 n)) (f n) so_far more
    ∙ ap (λ (l : List Node). base ++ lines_text l)
    (ap (λ (l : List Node). flat_map f (range_with_len 0 n) ++ l) (sym (append-nil (f n)))
    ∙ sym (flat_map-append f (range_with_len 0 n) (n ∷ []))
    ∙ ap (flat_map f) (sym (range_more n)))

-- the line of the node of one more number
pub line_next : (f : ℕ → Node) (n : ℕ) (base now next : List ℕ)
    → now ≡ base ++ lines_text (map f (range_with_len 0 n)) → next ≡ now ++ line_text (f n)
    → next ≡ base ++ lines_text (map f (range_with_len 0 (n + 1)))
line_next f n base now next so_far more =
    lines_behind base now next (map f (range_with_len 0 n)) (f n ∷ []) so_far
    (more ∙ ap (λ (l : List ℕ). now ++ l) (sym (one_line (f n))))
    ∙ ap (λ (l : List Node). base ++ lines_text l) (sym (map-range_with_len_more f 0 n n (omega arith)))

-- the items up to one more
items_more : {X : Type 0} (xs : List X) (k : ℕ) (x : X) → k < length xs → x ≡ get_or xs k x
    → take (k + 1) xs ≡ take k xs ++ x ∷ []
items_more {X} xs k x below is =
    take_more xs k x below ∙ ap (λ (y : X). take k xs ++ y ∷ []) (sym is)

-- the line of the node of one more item
pub line_item : {X : Type 0} (f : X → Node) (xs : List X) (k : ℕ) (x : X) (base now next : List ℕ)
    → k < length xs → x ≡ get_or xs k x → now ≡ base ++ lines_text (map f (take k xs))
    → next ≡ now ++ line_text (f x) → next ≡ base ++ lines_text (map f (take (k + 1) xs))
line_item f xs k x base now next below is so_far more =
    lines_behind base now next (map f (take k xs)) (f x ∷ []) so_far
    (more ∙ ap (λ (l : List ℕ). now ++ l) (sym (one_line (f x))))
    ∙ ap (λ (l : List Node). base ++ lines_text l)
    (sym (map-append f (take k xs) (x ∷ [])) ∙ ap (map f) (sym (items_more xs k x below is)))

-- the lines of the nodes of one more item
pub lines_item : {X : Type 0} (f : X → List Node) (xs : List X) (k : ℕ) (x : X) (base now next : List ℕ)
    → k < length xs → x ≡ get_or xs k x → now ≡ base ++ lines_text (flat_map f (take k xs))
    → next ≡ now ++ lines_text (f x) → next ≡ base ++ lines_text (flat_map f (take (k + 1) xs))
lines_item f xs k x base now next below is so_far more =
    lines_behind base now next (flat_map f (take k xs)) (f x) so_far more
    ∙ ap (λ (l : List Node). base ++ lines_text l)
    (ap (λ (l : List Node). flat_map f (take k xs) ++ l) (sym (append-nil (f x)))
    ∙ sym (flat_map-append f (take k xs) (x ∷ [])) ∙ ap (flat_map f) (sym (items_more xs k x below is)))
