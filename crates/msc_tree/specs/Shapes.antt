-- The elements that pictures in SVG are made of.
use Rattle.std.specs.Prelude.{ℕ, cond, List, [], ◌∷◌, ◌++◌, codes, nat_eq}
use Rattle.std.specs.Fmt.{decimal}
use Rattle.msc_tree.specs.declared.shape.Area.{Area}
use Rattle.msc_tree.specs.Trees.{Attribute, Node, children}
use Rattle.msc_tree.specs.Trees.Node.{literal, inline}
use Rattle.msc_tree.specs.Trees.Nodes.{no_nodes}

-- an attribute
abbrev pub valued : List ℕ → List ℕ → Attribute
valued name value = record { name = name; value = value }

-- an attribute whose value is a number
abbrev pub numbered : List ℕ → ℕ → Attribute
numbered name n = record { name = name; value = decimal n }

-- the class of an element
abbrev pub class : List ℕ → Attribute
class name = valued (codes "class") name

-- how round the corners of a rectangle are, if they are
abbrev pub rounding : ℕ → List Attribute
rounding round = cond (nat_eq round 0) [] (numbered (codes "rx") round ∷ [])

-- where a rectangle lies
abbrev pub area_attributes : Area → List Attribute
area_attributes a =
    numbered (codes "x") a.x ∷ numbered (codes "y") a.y ∷ numbered (codes "width") a.width
    ∷ numbered (codes "height") a.height ∷ []

-- the attributes of a rectangle
abbrev pub rect_attributes : List ℕ → Area → ℕ → List Attribute
rect_attributes c a round = class c ∷ (area_attributes a ++ rounding round)

-- a rectangle
abbrev pub rect : List ℕ → Area → ℕ → Node
rect c a round = inline (codes "rect") (rect_attributes c a round) no_nodes

-- a path
abbrev pub path : List ℕ → List ℕ → Node
path c d = inline (codes "path") (class c ∷ valued (codes "d") d ∷ []) no_nodes

-- the attributes of a text at a place
abbrev pub text_attributes : List ℕ → ℕ → ℕ → List Attribute
text_attributes c x y = class c ∷ numbered (codes "x") x ∷ numbered (codes "y") y ∷ []

-- an element that holds a text at a place
abbrev pub held_at : List ℕ → List ℕ → ℕ → ℕ → List ℕ → Node
held_at name c x y t = inline name (text_attributes c x y) (children (literal t ∷ []))

-- a text at a place
abbrev pub text_at : List ℕ → ℕ → ℕ → List ℕ → Node
text_at c x y t = held_at (codes "text") c x y t

-- the class and the center of a circle
abbrev pub center_attributes : List ℕ → ℕ → ℕ → List Attribute
center_attributes c x y = class c ∷ numbered (codes "cx") x ∷ numbered (codes "cy") y ∷ []

-- a circle
abbrev pub circle : List ℕ → ℕ → ℕ → List ℕ → Node
circle c x y radius =
    inline (codes "circle") (center_attributes c x y ++ valued (codes "r") radius ∷ []) no_nodes

-- the mark of an end of a race
abbrev pub end_circle : ℕ → ℕ → Node
end_circle x y = circle (codes "end") x y (codes "4")

-- an element that holds a text and has no attributes
abbrev pub plain : List ℕ → List ℕ → Node
plain name t = inline name [] (children (literal t ∷ []))

-- a letter of a path, or several, and a point
abbrev pub point : List ℕ → ℕ → ℕ → List ℕ
point letters x y = ((letters ++ decimal x) ++ codes ",") ++ decimal y

-- a letter of a path, or several, and a number
abbrev pub step : List ℕ → ℕ → List ℕ
step letters n = letters ++ decimal n
