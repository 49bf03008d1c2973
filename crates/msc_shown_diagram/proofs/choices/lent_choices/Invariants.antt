use Rattle.std.proofs.Common.{◌≡◌, map, take}
use Rattle.msc_shown_diagram.specs.Choices.{plain_choice, plain_lent}
use Rattle.msc_shown_diagram.proofs.choices.lent_choices.Given as goal

abbrev pub invariant-loop-choice : goal.invariant-loop-choice
invariant-loop-choice l = map plain_lent l.lent.items ≡ map plain_choice (take l.choice-index l.words)
