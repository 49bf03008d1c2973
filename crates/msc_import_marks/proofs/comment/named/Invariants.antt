use Rattle.std.proofs.Common.{◌≡◌, take}
use Rattle.msc_import_marks.specs.Comments.{named}
use Rattle.msc_import_marks.proofs.comment.named.Given as goal

abbrev pub invariant-loop-arrow : goal.invariant-loop-arrow
invariant-loop-arrow l = l.idents.items ≡ named l.arrows (take l.arrow-index l.met) l.name
