-- Bytes that are put one behind the other, and lines of nodes.
use Rattle.std.proofs.Common.{◌≡◌, ℕ, List, [], ◌∷◌, ◌++◌, ap, append_assoc, append-nil, sym, ◌∙◌}
use Rattle.msc_tree.specs.Trees.{Attribute, Node, attribute_text, attributes_text, line_text, lines_text}
use Rattle.msc_svg.proofs.Ranges.{lines_behind, one_line}

-- further bytes behind such as are known
pub add : (q r x b : List ℕ) → q ≡ x → r ≡ q ++ b → r ≡ x ++ b
add q r x b so_far more = more ∙ ap (λ (l : List ℕ). l ++ b) so_far

-- the same, behind a beginning
pub behind : (base x b now next : List ℕ) → now ≡ base ++ x → next ≡ now ++ b → next ≡ base ++ (x ++ b)
behind base x b now next so_far more =
    more ∙ ap (λ (l : List ℕ). l ++ b) so_far ∙ append_assoc base x b

-- the line of one node
pub as_lines : (base next : List ℕ) (x : Node) → next ≡ base ++ line_text x
    → next ≡ base ++ lines_text (x ∷ [])
as_lines base next x put = put ∙ ap (λ (l : List ℕ). base ++ l) (sym (one_line x))

-- the line of a node, and the lines of others behind it
pub line_then : (base now next : List ℕ) (x : Node) (ys : List Node) → now ≡ base ++ line_text x
    → next ≡ now ++ lines_text ys → next ≡ base ++ lines_text (x ∷ ys)
line_then base now next x ys first more =
    lines_behind base now next (x ∷ []) ys (as_lines base now x first) more

-- the lines of nodes, and the line of a further one behind them
pub then_line : (base now next : List ℕ) (xs : List Node) (y : Node) → now ≡ base ++ lines_text xs
    → next ≡ now ++ line_text y → next ≡ base ++ lines_text (xs ++ y ∷ [])
then_line base now next xs y first more =
    lines_behind base now next xs (y ∷ []) first (as_lines now next y more)

-- the lines of four nodes
pub four_lines : (base p q r next : List ℕ) (w x y z : Node) → p ≡ base ++ line_text w
    → q ≡ p ++ line_text x → r ≡ q ++ line_text y → next ≡ r ++ line_text z
    → next ≡ base ++ lines_text (w ∷ x ∷ y ∷ z ∷ [])
four_lines base p q r next w x y z first second third fourth =
    line_then base p next w (x ∷ y ∷ z ∷ []) first
    (line_then p q next x (y ∷ z ∷ []) second
    (line_then q r next y (z ∷ []) third (as_lines r next z fourth)))

-- the lines of nodes with equal parts
pub at_equal : {A B C : Type 0} (f : A → B → C → List Node) (base next : List ℕ) (a a' : A) (b b' : B)
    (c c' : C) → next ≡ base ++ lines_text (f a b c) → a ≡ a' → b ≡ b' → c ≡ c'
    → next ≡ base ++ lines_text (f a' b' c')
at_equal {A} {B} {C} f base next a a' b b' c c' put first second third =
    put ∙ ap (λ (x : A). base ++ lines_text (f x b c)) first
    ∙ ap (λ (y : B). base ++ lines_text (f a' y c)) second
    ∙ ap (λ (z : C). base ++ lines_text (f a' b' z)) third

-- three texts
three : (a b d : List ℕ) → (a ++ b) ++ d ≡ a ++ (b ++ (d ++ []))
three a b d = append_assoc a b d ∙ ap (λ (l : List ℕ). a ++ (b ++ l)) (sym (append-nil d))

-- three attributes
pub three_attributes : (base p q next : List ℕ) (x y z : Attribute) → p ≡ base ++ attribute_text x
    → q ≡ p ++ attribute_text y → next ≡ q ++ attribute_text z
    → next ≡ base ++ attributes_text (x ∷ y ∷ z ∷ [])
three_attributes base p q next x y z first second third =
    behind base (attribute_text x ++ attribute_text y) (attribute_text z) q next
    (behind base (attribute_text x) (attribute_text y) p q first second) third
    ∙ ap (λ (l : List ℕ). base ++ l) (three (attribute_text x) (attribute_text y) (attribute_text z))

-- bytes behind others, with equal parts
pub put_equal : {A B : Type 0} (f : A → B → List ℕ) (base next : List ℕ) (a a' : A) (b b' : B)
    → next ≡ base ++ f a b → a ≡ a' → b ≡ b' → next ≡ base ++ f a' b'
put_equal {A} {B} f base next a a' b b' put first second =
    put ∙ ap (λ (x : A). base ++ f x b) first ∙ ap (λ (y : B). base ++ f a' y) second
