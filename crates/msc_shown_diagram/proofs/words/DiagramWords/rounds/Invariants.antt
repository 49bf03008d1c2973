use Rattle.std.proofs.Common.{◌≡◌, map}
use Rattle.std.specs.List.{range_with_len}
use Rattle.msc_shown_diagram.specs.Shown.{rounds_at}
use Rattle.msc_shown_diagram.proofs.words.DiagramWords.rounds.Given as goal

abbrev pub invariant-loop-e : goal.invariant-loop-e
invariant-loop-e l = l.all.items ≡ map (rounds_at l.loops l.arrows l.rounds) (range_with_len 0 l.e)
