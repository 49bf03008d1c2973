use Rattle.std.proofs.Common.{◌≡◌, ◌++◌, take}
use Rattle.msc_import_marks.specs.Comments.{more_kinds}
use Rattle.msc_import_marks.proofs.comment.print_more_kinds.Given as goal

abbrev pub invariant-loop-kind : goal.invariant-loop-kind
invariant-loop-kind l = l.text.items ≡ l.initial.text.items ++ more_kinds (take l.kind-index l.kinds)
