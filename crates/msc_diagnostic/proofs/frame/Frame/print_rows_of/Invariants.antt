use Rattle.std.proofs.Common.{◌≡◌, ◌++◌, drop}
use Rattle.msc_diagnostic.specs.Blocks.{no_window, rows_of}
use Rattle.msc_diagnostic.proofs.frame.Frame.print_rows_of.Given as goal

abbrev pub invariant-loop-i : goal.invariant-loop-i
invariant-loop-i l =
    l.out.items ++ rows_of l.self l.source.ends l.source.text.now l.window (drop l.i l.marks)
    ≡ l.initial.out.items ++ rows_of l.self l.source.ends l.source.text.now no_window l.marks
