use Rattle.std.proofs.Common.{◌≡◌, ◌++◌, take}
use Rattle.std.specs.List.{flat_map}
use Rattle.msc_answer.specs.Reported.{next_choice}
use Rattle.msc_answer.proofs.reporting.print_more.Given as goal

abbrev pub invariant-loop-choice : goal.invariant-loop-choice
invariant-loop-choice l =
    l.text.items ≡ l.fn.text.items ++ flat_map next_choice (take l.choice-index l.choices)
