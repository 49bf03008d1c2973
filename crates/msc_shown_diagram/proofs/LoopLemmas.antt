-- The loops around statements, one statement more.
use Rattle.std.proofs.Common.{◌≡◌, ◌<◌, ◌≤◌, ℕ, ◌+◌, List, [], ◌∷◌, ◌++◌, length, get_or, drop, refl, ap, ◌∙◌}
use Rattle.std.proofs.lemmas.List.{append-nil, drop_more, drop_all}
use Rattle.msc_mermaid.specs.declared.statement.Placed.{Placed}
use Rattle.msc_shown_diagram.specs.Loops.{after_statement, loops_from, loops_in}
use Rattle.msc_shown_diagram.specs.declared.loops.OpenBlock.{OpenBlock}

from_cons : (k : ℕ) (bs : List OpenBlock) (p : Placed) (ps : List Placed)
    → loops_from k bs (p ∷ ps) ≡ loops_in bs ∷ loops_from (k + 1) (after_statement k p.statement bs) ps
unfolding loops_from
from_cons k bs p ps = refl

from_none : (k : ℕ) (bs : List OpenBlock) → loops_from k bs [] ≡ []
unfolding loops_from
from_none k bs = refl

module _ (ps : List Placed) (k : ℕ) (bs : List OpenBlock) where
  -- the next statement has the loops among the open blocks
  pub from_next : (p : Placed) → k < length ps
      → loops_from k bs (drop k ps) ≡ loops_in bs ∷ loops_from (k + 1) (after_statement k (get_or ps k p).statement bs) (drop (k + 1) ps)
  from_next p inside = ap (loops_from k bs) (drop_more ps k p inside) ∙ from_cons k bs (get_or ps k p) (drop (k + 1) ps)

  -- all statements were seen
  pub from_end : (all : List (List ℕ)) → length ps ≤ k → all ++ loops_from k bs (drop k ps) ≡ all
  from_end all over = ap (λ x. all ++ x) (ap (loops_from k bs) (drop_all k ps over) ∙ from_none k bs) ∙ append-nil all
