-- Figures: pictures with what they show, and what stands below them.
use Rattle.std.specs.Prelude.{ℕ, cond, List, [], ◌∷◌, ◌++◌, codes, length, nat_eq}
use Rattle.msc_picture.specs.declared.scene.Scene.{Scene}
use Rattle.msc_svg.specs.declared.layout.Layout.{Layout}
use Rattle.msc_svg.specs.Elements.{picture_nodes}
use Rattle.msc_svg.specs.Layouts.{layout_of}
use Rattle.msc_svg.specs.Svg.{size_attributes}
use Rattle.msc_tree.specs.Shapes.{plain, valued}
use Rattle.msc_tree.specs.Trees.{Attribute, Node, children}
use Rattle.msc_tree.specs.Trees.Node.{block}

-- the attributes of a picture that shows this
abbrev pub drawing_attributes : Layout → List ℕ → List Attribute
drawing_attributes l label =
    size_attributes l
    ++ valued (codes "role") (codes "img") ∷ valued (codes "aria-label") label ∷ []

-- the picture of a scene that shows this
abbrev pub drawing_node : Scene → List ℕ → Node
drawing_node s label =
    let l = layout_of s [] in block (codes "svg") (drawing_attributes l label) (children (picture_nodes s l []))

-- the figure of a scene that shows this, with what stands below it
abbrev pub figure_node : Scene → List ℕ → List Node → Node
figure_node s label below =
    block (codes "figure") (valued (codes "tabindex") (codes "0") ∷ []) (children (drawing_node s label ∷ below))

-- the same, where there is an instance
abbrev pub figure_of : Scene → List ℕ → List Node → Node
figure_of s label below =
    cond (nat_eq (length s.heads) 0) (plain (codes "p") (codes "It has no instances."))
    (figure_node s label below)

-- what stands below a picture, if it is not empty
abbrev pub caption_nodes : List ℕ → List Node
caption_nodes text = cond (nat_eq (length text) 0) [] (plain (codes "figcaption") text ∷ [])
