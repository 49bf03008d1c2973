use Rattle.std.proofs.Common.{ℕ, List, map, ap, sym, ◌∙◌}
use Rattle.std.specs.Borrow.{Bor}
use Rattle.std.proofs.lemmas.List.{take_all}
use Rattle.msc_links.specs.Blanks.{trimmed}
use Rattle.msc_links.specs.Comments.{parts_by}
use Rattle.msc_links.proofs.Reading.{map_map}
use Rattle.msc_links.proofs.comment.parts_by.Goals as goal

pub returns : goal.returns
unfolding parts_by
returns c =
    let pieces = c.as_slice-piece-items.result.now in
    let now = λ (piece : Bor (List ℕ)). piece.now in
    c.loop-piece.invariant
    ∙ ap (map (λ (piece : Bor (List ℕ)). trimmed piece.now)) (take_all c.loop-piece.piece-index pieces c.loop-piece-test.false)
    ∙ sym (map_map trimmed now pieces)
    ∙ ap (map trimmed) (ap (map now) c.as_slice-piece-items.ensures.value ∙ c.in_ok-pieces.ensures)
