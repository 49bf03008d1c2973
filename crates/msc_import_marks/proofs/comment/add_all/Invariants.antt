use Rattle.std.proofs.Common.{◌≡◌, take}
use Rattle.std.specs.List.{fold}
use Rattle.msc_import_marks.specs.Comments.{added}
use Rattle.msc_import_marks.proofs.comment.add_all.Given as goal

abbrev pub invariant-loop-other : goal.invariant-loop-other
invariant-loop-other l = l.idents.items ≡ fold added l.initial.idents.items (take l.other-index l.others)
