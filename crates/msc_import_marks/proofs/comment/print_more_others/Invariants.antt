use Rattle.std.proofs.Common.{◌≡◌, ◌++◌, take}
use Rattle.msc_import_marks.specs.Comments.{more_others}
use Rattle.msc_import_marks.proofs.comment.print_more_others.Given as goal

abbrev pub invariant-loop-ident : goal.invariant-loop-ident
invariant-loop-ident l = l.text.items ≡ l.initial.text.items ++ more_others (take l.ident-index l.idents)
