use Rattle.std.proofs.Common.{◌≡◌, take, fold}
use Rattle.msc_picture.specs.Texts.{with_axis}
use Rattle.msc_picture.proofs.text.put_axes.Given as goal

abbrev pub invariant-loop-column : goal.invariant-loop-column
invariant-loop-column l =
    l.line.items ≡ fold with_axis l.initial.line.items (take l.column-index l.columns)
