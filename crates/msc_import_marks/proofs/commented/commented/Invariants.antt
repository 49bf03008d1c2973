use Rattle.std.proofs.Common.{◌≡◌, ◌≤◌, take}
use Rattle.std.specs.List.{fold}
use Rattle.msc_import_marks.specs.Commented.{after, begun, part_of}
use Rattle.msc_import_marks.proofs.commented.commented.Given as goal

abbrev pub invariant-loop-comment : goal.invariant-loop-comment
invariant-loop-comment l = (part_of l.part ≡ fold (after l.places) begun (take l.comment-index l.comments)) × (l.part.event ≤ l.comment-index)
