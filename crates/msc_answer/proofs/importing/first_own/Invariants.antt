use Rattle.std.proofs.Common.{◌≡◌, drop}
use Rattle.msc_answer.specs.Importing.{first_reading}
use Rattle.msc_answer.proofs.importing.first_own.Given as goal

-- the rest of the lines reads as all of them
abbrev pub invariant-loop-comment : goal.invariant-loop-comment
invariant-loop-comment l =
    first_reading l.text (drop l.comment-index l.comments) ≡ first_reading l.text l.comments
