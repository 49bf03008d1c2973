-- The picture in SVG (this project's own).
use Rattle.std.specs.Prelude.{ℕ, ◌-◌, cond, List, [], ◌∷◌, ◌++◌, codes, length, nat_eq}
use Rattle.std.specs.Fmt.{decimal}
use Rattle.msc_picture.specs.declared.scene.Scene.{Scene}
use Rattle.msc_svg.specs.declared.layout.Layout.{Layout}
use Rattle.msc_svg.specs.Elements.{area, picture_nodes}
use Rattle.msc_svg.specs.Layouts.{layout_of}
use Rattle.msc_tree.specs.Shapes.{numbered, path, plain, rect, valued}
use Rattle.msc_tree.specs.Trees.{Attribute, Node, children, line_text, lines_text, opened}
use Rattle.msc_tree.specs.Trees.Node.{block}

-- a further text, if it is not empty
abbrev pub if_any : List ℕ → List (List ℕ)
if_any more = cond (nat_eq (length more) 0) [] (more ∷ [])

-- what stands above a picture: the name of the chart, and a further text
abbrev pub heading_of : List ℕ → List ℕ → List (List ℕ)
heading_of name more = (codes "msc " ++ name) ∷ if_any more

-- what a picture is called
abbrev pub title_of : List ℕ → List ℕ → List ℕ
title_of name more =
    cond (nat_eq (length more) 0) name ((name ++ codes ", ") ++ more)

-- how the elements of a picture look
abbrev pub style : List ℕ
style =
    codes "text{font:12px ui-monospace,Menlo,Consolas,DejaVu Sans Mono,monospace"
    ++ codes ";text-anchor:middle;fill:#111}"
    ++ codes ".right{text-anchor:start}.left{text-anchor:end}.name{font-weight:bold}"
    ++ codes ".kind{fill:#444}.number{font-size:10px;fill:#555}"
    ++ codes ".badge{font-size:10px;font-weight:bold;fill:#fff}"
    ++ codes ".plate{fill:#fff;fill-opacity:.8}.head,.action{fill:#fff;stroke:#111}"
    ++ codes ".axis,.tick,.open{fill:none;stroke:#111}.open{stroke-dasharray:6 4}"
    ++ codes ".card,.head,.action,.axis,.tick,.open{shape-rendering:crispEdges}"
    ++ codes ".foot,.tip{fill:#111}"
    ++ codes ".arrow{fill:none;stroke:#111;stroke-width:1.5;marker-end:url(#tip)}"
    ++ codes ".race{fill:#b80f2a;fill-opacity:.14;stroke:#b80f2a;stroke-width:1.5}"
    ++ codes ".end,.count{fill:#b80f2a}.hit{stroke:#b80f2a;stroke-width:2}"
    ++ codes ".card{fill:#fff;stroke:#999}.title,.verdict{text-anchor:start}"
    ++ codes ".title{font-weight:bold}.verdict{fill:#444}"

-- the head of an arrow
abbrev pub tip : Node
tip =
    block (codes "marker") (valued (codes "id") (codes "tip")
    ∷ valued (codes "markerUnits") (codes "userSpaceOnUse")
    ∷ valued (codes "markerWidth") (codes "12") ∷ valued (codes "markerHeight") (codes "8")
    ∷ valued (codes "refX") (codes "12") ∷ valued (codes "refY") (codes "4")
    ∷ valued (codes "orient") (codes "auto") ∷ [])
    (children (path (codes "tip") (codes "M0,0L12,4L0,8z") ∷ []))

-- the part of the plane that is shown
abbrev pub view_box : Layout → List ℕ
view_box l = ((codes "0 0 " ++ decimal l.width) ++ codes " ") ++ decimal l.height

-- how large a picture is, and which part of the plane it shows
abbrev pub size_attributes : Layout → List Attribute
size_attributes l =
    numbered (codes "width") l.width ∷ numbered (codes "height") l.height
    ∷ valued (codes "viewBox") (view_box l) ∷ []

-- the attributes of the whole
abbrev pub svg_attributes : Layout → List Attribute
svg_attributes l =
    (valued (codes "xmlns") (codes "http://www.w3.org/2000/svg") ∷ size_attributes l)
    ++ valued (codes "role") (codes "img") ∷ []

-- the card that a picture stands on
abbrev pub card : Layout → Node
card l = rect (codes "card") (area 1 1 (l.width - 2) (l.height - 2)) 0

-- the tree of a picture with a further text above it
abbrev pub svg_node : Scene → List ℕ → Node
svg_node s more =
    let heading = heading_of s.name more in
    let l = layout_of s heading in
    block (codes "svg") (svg_attributes l) (children (plain (codes "title") (title_of s.name more)
    ∷ plain (codes "style") style ∷ tip ∷ card l ∷ picture_nodes s l heading))

-- a picture in SVG
abbrev pub svg_text : Scene → List ℕ → List ℕ
svg_text s more = line_text (svg_node s more)

-- what stands before the elements of a picture with this title
abbrev pub front_text : Layout → List ℕ → List ℕ
front_text l title =
    (opened (codes "svg") (svg_attributes l) ++ codes ">\n")
    ++ lines_text (plain (codes "title") title ∷ plain (codes "style") style ∷ tip ∷ card l ∷ [])
