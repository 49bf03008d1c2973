use Rattle.std.proofs.Common.{◌≡◌, take}
use Rattle.msc_import_marks.specs.Comments.{idents_of}
use Rattle.msc_import_marks.proofs.comment.idents_of.Given as goal

abbrev pub invariant-loop-name : goal.invariant-loop-name
invariant-loop-name l = l.idents.items ≡ idents_of l.arrows l.met (take l.name-index l.names)
