use Rattle.std.proofs.Common.{◌≡◌, drop}
use Rattle.msc_answer.specs.Own.{said_in}
use Rattle.msc_answer.proofs.own.own_in_diagram.Given as goal

-- the rest of the lines says what all of them say
abbrev pub invariant-loop-comment : goal.invariant-loop-comment
invariant-loop-comment l =
    said_in l.text (drop l.comment-index l.comments) ≡ said_in l.text l.comments
