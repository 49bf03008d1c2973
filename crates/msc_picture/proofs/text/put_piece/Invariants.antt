use Rattle.std.proofs.Common.{◌≡◌, fold}
use Rattle.std.specs.List.{range_with_len}
use Rattle.msc_picture.specs.Texts.{with_byte}
use Rattle.msc_picture.proofs.text.put_piece.Given as goal

abbrev pub invariant-loop-k : goal.invariant-loop-k
invariant-loop-k l =
    l.line.items ≡ fold (with_byte l.piece) l.initial.line.items (range_with_len 0 l.k)
