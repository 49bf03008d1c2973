use Rattle.std.proofs.Common.{◌≡◌, ◌++◌, map, replicate}
use Rattle.msc_shown_diagram.specs.Choices.{no_choice, plain_lent}
use Rattle.msc_shown_diagram.proofs.choices.push_more.Given as goal

abbrev pub invariant-loop : goal.invariant-loop
invariant-loop l = map plain_lent l.choices.items ≡ map plain_lent l.fn.choices.items ++ replicate l.counter no_choice
