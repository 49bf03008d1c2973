-- Blocks, and the lines of their children.
use Rattle.std.proofs.Common.{◌≡◌, ℕ, List, [], ◌∷◌, ◌++◌, codes, refl, sym, ap, ◌∙◌, append_assoc}
use Rattle.msc_tree.specs.Trees.{Attribute, Node, block_lines, children, closed, line_text, lines_text, node_text, opened}
use Rattle.msc_tree.specs.Trees.Node.{block}
use Rattle.msc_tree.proofs.Lines.{lines_append}

-- the children of a block are lines
lines_of_block : (nodes : List Node) → block_lines (children nodes) ≡ lines_text nodes
lines_of_block [] = refl
lines_of_block (x ∷ xs) = ap (λ (l : List ℕ). line_text x ++ l) (lines_of_block xs)

-- a block is its beginning, its lines and its end
pub block_is : (name : List ℕ) (attributes : List Attribute) (child : Node) (others : List Node)
    → node_text (block name attributes (children (child ∷ others)))
    ≡ ((opened name attributes ++ codes ">\n") ++ lines_text (child ∷ others)) ++ closed name
block_is name attributes child others =
    ap (λ (l : List ℕ). ((opened name attributes ++ codes ">\n") ++ (line_text child ++ l)) ++ closed name)
    (lines_of_block others)

-- the line of a block whose children come in two parts
pub block_whole : (name : List ℕ) (attributes : List Attribute) (child : Node) (front back : List Node)
    → (((opened name attributes ++ codes ">\n") ++ lines_text (child ∷ front)) ++ lines_text back)
    ++ (closed name ++ codes "\n")
    ≡ line_text (block name attributes (children (child ∷ (front ++ back))))
block_whole name attributes child front back =
    let start = opened name attributes ++ codes ">\n" in
    sym (append_assoc ((start ++ lines_text (child ∷ front)) ++ lines_text back) (closed name) (codes "\n"))
    ∙ ap (λ (l : List ℕ). (l ++ closed name) ++ codes "\n")
    (append_assoc start (lines_text (child ∷ front)) (lines_text back)
    ∙ ap (λ (l : List ℕ). start ++ l) (sym (lines_append (child ∷ front) back)))
    ∙ ap (λ (l : List ℕ). l ++ codes "\n") (sym (block_is name attributes child (front ++ back)))
