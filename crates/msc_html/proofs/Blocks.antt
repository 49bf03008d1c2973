-- Blocks that are put part by part.
use Rattle.std.proofs.Common.{◌≡◌, ℕ, List, ◌∷◌, ◌++◌, codes, sym, ap, ◌∙◌, append_assoc}
use Rattle.msc_svg.proofs.Chains.{behind}
use Rattle.msc_tree.proofs.Nesting.{block_is}
use Rattle.msc_tree.specs.Trees.{Attribute, Node, children, closed, line_text, lines_text, opened}
use Rattle.msc_tree.specs.Trees.Node.{block}

-- a block is put as its beginning, the lines of its children, and its end
pub put_block : (base p q next name : List ℕ) (attributes : List Attribute) (child : Node)
    (others : List Node) → p ≡ base ++ (opened name attributes ++ codes ">\n")
    → q ≡ p ++ lines_text (child ∷ others) → next ≡ q ++ (closed name ++ codes "\n")
    → next ≡ base ++ line_text (block name attributes (children (child ∷ others)))
put_block base p q next name attributes child others first second third =
    let start = opened name attributes ++ codes ">\n" in
    let lines = lines_text (child ∷ others) in
    behind base (start ++ lines) (closed name ++ codes "\n") q next
    (behind base start lines p q first second) third
    ∙ ap (λ (l : List ℕ). base ++ l) (sym (append_assoc (start ++ lines) (closed name) (codes "\n"))
    ∙ ap (λ (l : List ℕ). l ++ codes "\n") (sym (block_is name attributes child others)))
