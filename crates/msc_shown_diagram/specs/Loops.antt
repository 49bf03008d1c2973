-- The loops around the statements of a diagram.
use Rattle.std.specs.Prelude.{ℕ, ◌+◌, ◌-◌, Bool, true, false, cond, List, [], ◌∷◌, ◌++◌, length, take}
use Rattle.std.specs.List.{flat_map}
use Rattle.msc_mermaid.specs.declared.row.Closer.TheVariants as closers
use Rattle.msc_mermaid.specs.declared.row.Kind.{Kind}
use Rattle.msc_mermaid.specs.declared.row.Kind.TheVariants as kinds
use Rattle.msc_mermaid.specs.declared.statement.Placed.{Placed}
use Rattle.msc_mermaid.specs.declared.statement.Statement.{Statement}
use Rattle.msc_mermaid.specs.declared.statement.Statement.TheVariants.{Begins, Closes}
use Rattle.msc_shown_diagram.specs.declared.loops.OpenBlock.{OpenBlock}

-- a block that goes some rounds
abbrev pub is_loop : Kind → Bool
is_loop kinds.Loop = true
is_loop kind = false

-- the open blocks, outermost first, after statement k: one that begins a block opens it, and the end
-- of a block closes the innermost one
abbrev pub after_statement : ℕ → Statement → List OpenBlock → List OpenBlock
after_statement k (Begins kind) blocks = blocks ++ record { begin = k; is_loop = is_loop kind } ∷ []
after_statement k (Closes closers.End) blocks = take (length blocks - 1) blocks
after_statement k s blocks = blocks

-- the loops among them, by the numbers of the statements that begin them
abbrev pub loop_at : OpenBlock → List ℕ
loop_at b = cond b.is_loop (b.begin ∷ []) []

abbrev pub loops_in : List OpenBlock → List ℕ
loops_in blocks = flat_map loop_at blocks

-- the loops around each of these statements, of which the first has this number, and before which
-- these blocks are open
unfoldable pub loops_from : ℕ → List OpenBlock → List Placed → List (List ℕ)
loops_from k blocks [] = []
loops_from k blocks (p ∷ ps) = loops_in blocks ∷ loops_from (k + 1) (after_statement k p.statement blocks) ps

-- those around each statement of a diagram
abbrev pub loops_of : List Placed → List (List ℕ)
loops_of ps = loops_from 0 [] ps
