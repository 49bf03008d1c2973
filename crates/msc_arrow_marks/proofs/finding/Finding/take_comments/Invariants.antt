use Rattle.std.proofs.Common.{◌≡◌, drop, fold}
use Rattle.msc_arrow_marks.specs.Marks.{after_comment, found}
use Rattle.msc_arrow_marks.proofs.finding.Finding.take_comments.Given as goal

abbrev pub invariant-loop-comment : goal.invariant-loop-comment
invariant-loop-comment l = fold (after_comment l.text l.statements) (found l.self) (drop l.comment-index l.comments) ≡ fold (after_comment l.text l.statements) (found l.fn.self) l.comments
