use Rattle.std.proofs.Common.{◌≡◌, map, take}
use Rattle.msc_scenarios.proofs.path.choices_of.Given as goal

abbrev pub invariant-loop-path : goal.invariant-loop-path
invariant-loop-path l = l.lists.items ≡ map (λ w. w.choices) (take l.path-index l.paths)
