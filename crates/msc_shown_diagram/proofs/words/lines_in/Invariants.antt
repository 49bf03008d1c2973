use Rattle.std.proofs.Common.{◌≡◌, map}
use Rattle.std.specs.List.{range_with_len}
use Rattle.msc_shown_diagram.specs.Words.{line_pair, plain_line}
use Rattle.msc_shown_diagram.proofs.words.lines_in.Given as goal

abbrev pub invariant-loop-i : goal.invariant-loop-i
invariant-loop-i l = map plain_line l.names.items ≡ map (line_pair l.text l.shown l.lines) (range_with_len 0 l.i)
