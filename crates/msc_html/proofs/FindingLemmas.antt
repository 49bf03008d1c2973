-- The articles of findings, one more.
use Rattle.std.proofs.Common.{◌≡◌, ◌+◌, ◌-◌, ◌≤◌, ◌++◌, ◌∷◌, [], ℕ, List, suc, map, ap, ◌∙◌, arith}
use Rattle.std.specs.List.{range_with_len}
use Rattle.std.proofs.lemmas.List.{map-append}
use Rattle.msc_svg.proofs.Ranges.{range_last}
use Rattle.msc_html.specs.DiagramReports.{finding_node, findings_nodes, paragraph_at}
use Rattle.msc_tree.specs.Trees.{Node}

-- the articles up to that of finding j and its own
pub findings_more : (found : List (List ℕ)) (k j : ℕ) → k ≤ j
    → findings_nodes found k (j + 1 - k)
    ≡ findings_nodes found k (j - k) ++ finding_node (j + 1) (paragraph_at found j) ∷ []
findings_more found k j from =
    let node : ℕ → Node = λ i. finding_node (i + 1) (paragraph_at found i) in
    let on : j + 1 - k ≡ suc (j - k) = omega (arith, from) in
    let last : k + (j - k) ≡ j = omega (arith, from) in
    ap (λ (n : ℕ). map node (range_with_len k n)) on
    ∙ ap (map node) (range_last (j - k) k j last)
    ∙ map-append node (range_with_len k (j - k)) (j ∷ [])

-- nodes without the first
abbrev pub rest_of : List Node → List Node
rest_of [] = []
rest_of (x ∷ nodes) = nodes
