use Rattle.std.proofs.Common.{◌≡◌}
use Rattle.msc_answer.specs.Importing.{rounds_below}
use Rattle.msc_answer.proofs.choices.rounds_in.Given as goal

abbrev pub invariant-loop-number : goal.invariant-loop-number
invariant-loop-number l = l.rounds.items ≡ rounds_below l.bytes l.number
