-- Trees whose bytes are plain: those of their names, values and texts are.
use Rattle.std.proofs.Common.{◌≡◌, ℕ, Bool, true, false, cond, List, [], ◌∷◌, ◌++◌, codes, map, get_or, zero, suc, nat_eq, refl, sym, subst}
use Rattle.std.specs.Fmt.{decimal}
use Rattle.std.specs.List.{flat_map}
use Rattle.std.proofs.lemmas.Grind.{flat_map-append}
use Rattle.msc_picture.specs.Plain.{is_plain, is_plain_byte}
use Rattle.msc_picture.proofs.PlainBytes.{looks_plain, plain_by, plain_choice, plain_decimal, plain_join, plain_single, plain_cons}
use Rattle.msc_tree.specs.declared.shape.Area.{Area}
use Rattle.msc_tree.specs.Shapes.{area_attributes, center_attributes, class, end_circle, numbered, path, plain, point, rect, rect_attributes, rounding, step, text_at, text_attributes, valued}
use Rattle.msc_tree.specs.Trees.{Attribute, Node, attribute_text, attributes_text, children, closed, escaped, escaped_byte, line_text, lines_text, node_text, opened}
use Rattle.msc_tree.specs.Trees.Node.{literal, inline, block}
use Rattle.msc_tree.specs.Trees.Nodes.{no_nodes}
use Rattle.msc_tree.proofs.Nesting.{block_is}

-- the bytes of an attribute are plain, of several, of a node, and of the lines of nodes
unfoldable pub PlainAttribute : Attribute → Type 0
PlainAttribute a = is_plain (attribute_text a) ≡ true

unfoldable pub PlainAttributes : List Attribute → Type 0
PlainAttributes attributes = is_plain (attributes_text attributes) ≡ true

unfoldable pub PlainNode : Node → Type 0
PlainNode x = is_plain (node_text x) ≡ true

unfoldable pub PlainLines : List Node → Type 0
PlainLines xs = is_plain (lines_text xs) ≡ true

-- what stands for a byte
byte_plain : (b : ℕ) → is_plain_byte b ≡ true → is_plain (escaped_byte b) ≡ true
byte_plain b p =
    plain_choice (nat_eq b 38) (codes "&amp;") _ (plain_by _ refl)
    (plain_choice (nat_eq b 60) (codes "&lt;") _ (plain_by _ refl)
    (plain_choice (nat_eq b 62) (codes "&gt;") _ (plain_by _ refl)
    (plain_choice (nat_eq b 34) (codes "&quot;") (b ∷ []) (plain_by _ refl) (plain_single b p))))

pub plain_escaped : (t : List ℕ) → is_plain t ≡ true → is_plain (escaped t) ≡ true
plain_escaped [] p = p
plain_escaped (b ∷ bs) p =
    let parts = plain_cons b bs p in
    plain_join (escaped_byte b) (escaped bs) (byte_plain b parts.0) (plain_escaped bs parts.1)

-- an attribute
pub valued_plain : (name value : List ℕ) → looks_plain name ≡ true → is_plain value ≡ true
    → PlainAttribute (valued name value)
unfolding PlainAttribute
valued_plain name value p q =
    plain_join _ (34 ∷ []) (plain_join _ (escaped value)
    (plain_join (codes " " ++ name) (61 ∷ 34 ∷ [])
    (plain_join (codes " ") name (plain_by _ refl) (plain_by name p)) (plain_by _ refl))
    (plain_escaped value q)) (plain_by _ refl)

pub numbered_plain : (name : List ℕ) (n : ℕ) → looks_plain name ≡ true
    → PlainAttribute (numbered name n)
numbered_plain name n p = valued_plain name (decimal n) p (plain_decimal n)

pub class_plain : (c : List ℕ) → is_plain c ≡ true → PlainAttribute (class c)
class_plain c p = valued_plain (codes "class") c refl p

-- several attributes
pub more_plain : (a : Attribute) (others : List Attribute) → PlainAttribute a
    → PlainAttributes others → PlainAttributes (a ∷ others)
unfolding PlainAttribute PlainAttributes
more_plain a others p q = plain_join (attribute_text a) (attributes_text others) p q

pub none_plain : PlainAttributes []
unfolding PlainAttributes
none_plain = plain_by [] refl

pub both_plain : (xs ys : List Attribute) → PlainAttributes xs
    → PlainAttributes ys → PlainAttributes (xs ++ ys)
unfolding PlainAttributes
both_plain xs ys p q =
    subst (λ (l : List ℕ). is_plain l ≡ true) (sym (flat_map-append attribute_text xs ys))
    (plain_join (attributes_text xs) (attributes_text ys) p q)

-- the beginning and the end of an element
pub opened_plain : (name : List ℕ) (attributes : List Attribute) → looks_plain name ≡ true
    → PlainAttributes attributes → is_plain (opened name attributes) ≡ true
unfolding PlainAttributes
opened_plain name attributes p q =
    plain_join (codes "<" ++ name) (attributes_text attributes)
    (plain_join (codes "<") name (plain_by _ refl) (plain_by name p)) q

pub closed_plain : (name : List ℕ) → looks_plain name ≡ true → is_plain (closed name) ≡ true
closed_plain name p =
    plain_join (codes "</" ++ name) (codes ">")
    (plain_join (codes "</") name (plain_by _ refl) (plain_by name p)) (plain_by _ refl)

-- an element without children, and one that holds a text
pub empty_plain : (name : List ℕ) (attributes : List Attribute) → looks_plain name ≡ true
    → PlainAttributes attributes
    → PlainNode (inline name attributes no_nodes)
unfolding PlainAttributes PlainNode
empty_plain name attributes p q =
    plain_join (opened name attributes) (codes "/>") (opened_plain name attributes p q) (plain_by _ refl)

pub holding_plain : (name : List ℕ) (attributes : List Attribute) (t : List ℕ)
    → looks_plain name ≡ true → PlainAttributes attributes → is_plain t ≡ true
    → PlainNode (inline name attributes (children (literal t ∷ [])))
unfolding PlainAttributes PlainNode
holding_plain name attributes t p q r =
    plain_join _ (closed name) (plain_join (opened name attributes ++ codes ">") (escaped t ++ [])
    (plain_join (opened name attributes) (codes ">") (opened_plain name attributes p q)
    (plain_by _ refl))
    (plain_join (escaped t) [] (plain_escaped t r) (plain_by [] refl))) (closed_plain name p)

-- the shapes
round_plain : (n : ℕ) (b : Bool)
    → PlainAttributes (cond b [] (numbered (codes "rx") n ∷ []))
round_plain n true = none_plain
round_plain n false = more_plain _ _ (numbered_plain (codes "rx") n refl) none_plain

pub rect_plain : (c : List ℕ) (a : Area) (round : ℕ) → is_plain c ≡ true
    → PlainNode (rect c a round)
rect_plain c a round p =
    empty_plain (codes "rect") (rect_attributes c a round) refl
    (more_plain (class c) _ (class_plain c p) (both_plain (area_attributes a) (rounding round)
    (more_plain _ _ (numbered_plain (codes "x") a.x refl)
    (more_plain _ _ (numbered_plain (codes "y") a.y refl)
    (more_plain _ _ (numbered_plain (codes "width") a.width refl)
    (more_plain _ _ (numbered_plain (codes "height") a.height refl) none_plain))))
    (round_plain round (nat_eq round 0))))

pub path_plain : (c d : List ℕ) → is_plain c ≡ true → is_plain d ≡ true
    → PlainNode (path c d)
path_plain c d p q =
    empty_plain (codes "path") _ refl (more_plain (class c) _ (class_plain c p)
    (more_plain _ _ (valued_plain (codes "d") d refl q) none_plain))

pub text_plain : (c : List ℕ) (x y : ℕ) (t : List ℕ) → is_plain c ≡ true → is_plain t ≡ true
    → PlainNode (text_at c x y t)
text_plain c x y t p q =
    holding_plain (codes "text") (text_attributes c x y) t refl
    (more_plain (class c) _ (class_plain c p)
    (more_plain _ _ (numbered_plain (codes "x") x refl)
    (more_plain _ _ (numbered_plain (codes "y") y refl) none_plain))) q

pub circle_plain : (x y : ℕ) → PlainNode (end_circle x y)
circle_plain x y =
    empty_plain (codes "circle") _ refl
    (both_plain (center_attributes (codes "end") x y) _
    (more_plain _ _ (class_plain (codes "end") (plain_by _ refl))
    (more_plain _ _ (numbered_plain (codes "cx") x refl)
    (more_plain _ _ (numbered_plain (codes "cy") y refl) none_plain)))
    (more_plain _ _ (valued_plain (codes "r") (codes "4") refl (plain_by _ refl)) none_plain))

pub held_plain : (name t : List ℕ) → looks_plain name ≡ true → is_plain t ≡ true
    → PlainNode (plain name t)
held_plain name t p q = holding_plain name [] t p none_plain q

pub point_plain : (letters : List ℕ) (x y : ℕ) → looks_plain letters ≡ true
    → is_plain (point letters x y) ≡ true
point_plain letters x y p =
    plain_join _ (decimal y) (plain_join (letters ++ decimal x) (codes ",")
    (plain_join letters (decimal x) (plain_by letters p) (plain_decimal x)) (plain_by _ refl))
    (plain_decimal y)

pub step_plain : (letters : List ℕ) (n : ℕ) → looks_plain letters ≡ true
    → is_plain (step letters n) ≡ true
step_plain letters n p = plain_join letters (decimal n) (plain_by letters p) (plain_decimal n)

-- lines of elements
pub no_lines : PlainLines []
unfolding PlainLines
no_lines = plain_by [] refl

pub line_plain : (x : Node) → PlainNode x → is_plain (line_text x) ≡ true
unfolding PlainNode
line_plain x p = plain_join (node_text x) (codes "\n") p (plain_by _ refl)

pub next_line : (x : Node) (xs : List Node) → PlainNode x
    → PlainLines xs → PlainLines (x ∷ xs)
unfolding PlainNode PlainLines
next_line x xs p q = plain_join (line_text x) (lines_text xs) (line_plain x p) q

pub join_lines : (xs ys : List Node) → PlainLines xs
    → PlainLines ys → PlainLines (xs ++ ys)
unfolding PlainLines
join_lines xs ys p q =
    subst (λ (l : List ℕ). is_plain l ≡ true) (sym (flat_map-append line_text xs ys))
    (plain_join (lines_text xs) (lines_text ys) p q)

pub choice_lines : (b : Bool) (xs ys : List Node) → PlainLines xs
    → PlainLines ys → PlainLines (cond b xs ys)
choice_lines true xs ys p q = p
choice_lines false xs ys p q = q

pub map_lines : {X : Type 0} (f : X → Node) (xs : List X)
    → ((x : X) → PlainNode (f x)) → PlainLines (map f xs)
map_lines {X} f [] p = no_lines
map_lines {X} f (x ∷ xs) p = next_line (f x) (map f xs) (p x) (map_lines f xs p)

pub flat_lines : {X : Type 0} (f : X → List Node) (xs : List X)
    → ((x : X) → PlainLines (f x)) → PlainLines (flat_map f xs)
flat_lines {X} f [] p = no_lines
flat_lines {X} f (x ∷ xs) p = join_lines (f x) (flat_map f xs) (p x) (flat_lines f xs p)

-- a block of lines
pub block_plain : (name : List ℕ) (attributes : List Attribute) (child : Node) (others : List Node)
    → looks_plain name ≡ true → PlainAttributes attributes
    → PlainLines (child ∷ others)
    → PlainNode (block name attributes (children (child ∷ others)))
unfolding PlainAttributes PlainLines PlainNode
block_plain name attributes child others p q r =
    subst (λ (l : List ℕ). is_plain l ≡ true) (sym (block_is name attributes child others))
    (plain_join _ (closed name) (plain_join (opened name attributes ++ codes ">\n") _
    (plain_join (opened name attributes) (codes ">\n") (opened_plain name attributes p q)
    (plain_by _ refl)) r) (closed_plain name p))

-- each of several texts is plain
abbrev pub ArePlain : List (List ℕ) → Type 0
ArePlain [] = is_plain [] ≡ true
ArePlain (x ∷ xs) = (is_plain x ≡ true) × ArePlain xs

pub one_of : (xs : List (List ℕ)) (k : ℕ) → ArePlain xs → is_plain (get_or xs k []) ≡ true
one_of [] k p = p
one_of (x ∷ xs) zero p = p.0
one_of (x ∷ xs) (suc k) p = one_of xs k p.1
