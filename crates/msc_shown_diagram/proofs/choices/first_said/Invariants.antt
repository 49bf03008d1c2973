use Rattle.std.proofs.Common.{◌≡◌, map, take}
use Rattle.std.specs.List.{enumerate_from}
use Rattle.msc_shown_diagram.specs.Choices.{choice_said, plain_choice}
use Rattle.msc_shown_diagram.proofs.choices.first_said.Given as goal

abbrev pub invariant-loop-k : goal.invariant-loop-k
invariant-loop-k l = map plain_choice l.said.items
    ≡ map (λ at. choice_said l.diagram l.text (take at.0 l.choices) at.1) (enumerate_from 0 (take l.k l.choices))
