use Rattle.std.proofs.Common.{◌≡◌, map, take}
use Rattle.msc_answer.specs.Importing.{choice_in}
use Rattle.msc_answer.proofs.choices.choices_of.Given as goal

abbrev pub invariant-loop-part : goal.invariant-loop-part
invariant-loop-part l =
    l.choices.items ≡ map (λ part. choice_in part.now) (take l.part-index l.parts)
