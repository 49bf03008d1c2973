use Rattle.std.proofs.Common.{◌≡◌, map, take}
use Rattle.msc_arrow_marks.specs.Accepting.{spoken_arrow}
use Rattle.msc_arrow_marks.proofs.accepting.spoken_arrows.Given as goal

abbrev pub invariant-loop-placed : goal.invariant-loop-placed
invariant-loop-placed l = l.arrows.items ≡ map (spoken_arrow l.text) (take l.placed-index l.statements)
