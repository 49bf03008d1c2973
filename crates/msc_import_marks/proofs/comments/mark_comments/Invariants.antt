use Rattle.std.proofs.Common.{◌≡◌, take}
use Rattle.msc_import_marks.specs.Comments.{mark_comments}
use Rattle.msc_import_marks.proofs.comments.mark_comments.Given as goal

abbrev pub invariant-loop-event : goal.invariant-loop-event
invariant-loop-event l = l.comments.items ≡ mark_comments l.text l.marks l.statements l.met (take l.event-index l.events)
