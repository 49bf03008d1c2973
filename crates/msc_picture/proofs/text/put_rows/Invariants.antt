use Rattle.std.proofs.Common.{◌≡◌, ◌++◌, slice_get}
use Rattle.std.specs.List.{range_with_len, flat_map}
use Rattle.msc_picture.specs.Texts.{line_at}
use Rattle.msc_picture.proofs.text.put_rows.Given as goal

abbrev pub invariant-loop-r : goal.invariant-loop-r
invariant-loop-r l =
    l.page.items
    ≡ l.initial.page.items
    ++ flat_map (λ r. line_at l.scene l.c r (slice_get l.scene.rows r)) (range_with_len 0 l.r)
