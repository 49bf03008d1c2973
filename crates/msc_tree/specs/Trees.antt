-- Trees of elements, and their bytes, as SVG and HTML read them (this project's own).
use Rattle.std.specs.Prelude.{ℕ, cond, List, [], ◌∷◌, ◌++◌, codes, nat_eq}
use Rattle.std.specs.List.{flat_map}

-- a name and a value
pub record Attribute : Type 0 where
  pub name : List ℕ
  pub value : List ℕ

-- A text, or an element with its attributes and children: inline, or a block, which has a line for each
-- child.
mutual
  pub data Node : Type 0 where
    literal : List ℕ → Node
    inline : List ℕ → List Attribute → Nodes → Node
    block : List ℕ → List Attribute → Nodes → Node

  pub data Nodes : Type 0 where
    no_nodes : Nodes
    node : Node → Nodes → Nodes

-- these nodes as children
abbrev pub children : List Node → Nodes
children [] = no_nodes
children (x ∷ xs) = node x (children xs)

-- what stands for a byte in texts and values
abbrev pub escaped_byte : ℕ → List ℕ
escaped_byte b =
    cond (nat_eq b 38) (codes "&amp;") (cond (nat_eq b 60) (codes "&lt;")
    (cond (nat_eq b 62) (codes "&gt;") (cond (nat_eq b 34) (codes "&quot;") (b ∷ []))))

-- what stands for a text
abbrev pub escaped : List ℕ → List ℕ
escaped text = flat_map escaped_byte text

-- an attribute; 34 is a quotation mark
abbrev pub attribute_text : Attribute → List ℕ
attribute_text a = (((codes " " ++ a.name) ++ 61 ∷ 34 ∷ []) ++ escaped a.value) ++ 34 ∷ []

-- the attributes of an element
abbrev pub attributes_text : List Attribute → List ℕ
attributes_text attributes = flat_map attribute_text attributes

-- the beginning of an element, as far as its attributes go
abbrev pub opened : List ℕ → List Attribute → List ℕ
opened name attributes = (codes "<" ++ name) ++ attributes_text attributes

-- the end of an element
abbrev pub closed : List ℕ → List ℕ
closed name = (codes "</" ++ name) ++ codes ">"

abbrev mutual
  -- the bytes of a tree
  pub node_text : Node → List ℕ
  node_text (literal t) = escaped t
  node_text (inline name attributes no_nodes) = opened name attributes ++ codes "/>"
  node_text (inline name attributes (node child others)) =
      ((opened name attributes ++ codes ">") ++ (node_text child ++ nodes_text others)) ++ closed name
  node_text (block name attributes no_nodes) = opened name attributes ++ codes "/>"
  node_text (block name attributes (node child others)) =
      ((opened name attributes ++ codes ">\n")
      ++ ((node_text child ++ codes "\n") ++ block_lines others)) ++ closed name

  -- those of trees, one behind the other
  pub nodes_text : Nodes → List ℕ
  nodes_text no_nodes = []
  nodes_text (node child others) = node_text child ++ nodes_text others

  -- those of trees, each in a line
  pub block_lines : Nodes → List ℕ
  block_lines no_nodes = []
  block_lines (node child others) = (node_text child ++ codes "\n") ++ block_lines others

-- the line of a tree
abbrev pub line_text : Node → List ℕ
line_text x = node_text x ++ codes "\n"

-- the lines of trees
abbrev pub lines_text : List Node → List ℕ
lines_text nodes = flat_map line_text nodes
