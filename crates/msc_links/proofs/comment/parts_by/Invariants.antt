use Rattle.std.proofs.Common.{◌≡◌, map, take}
use Rattle.msc_links.specs.Blanks.{trimmed}
use Rattle.msc_links.proofs.comment.parts_by.Given as goal

-- the parts so far are the pieces so far, trimmed
abbrev pub invariant-loop-piece : goal.invariant-loop-piece
invariant-loop-piece l = map (λ part. part.now) l.parts.items ≡ map (λ piece. trimmed piece.now) (take l.piece-index l.piece-items)
