use Rattle.std.proofs.Common.{◌≡◌, [], fold}
use Rattle.std.specs.List.{range_with_len}
use Rattle.msc_picture.specs.Texts.{with_name}
use Rattle.msc_picture.proofs.text.head_line.Given as goal

abbrev pub invariant-loop-i : goal.invariant-loop-i
invariant-loop-i l =
    l.line.items ≡ fold (with_name l.scene l.c) [] (range_with_len 0 l.i)
