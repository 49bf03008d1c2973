use Rattle.std.proofs.Common.{◌≡◌, ◌++◌, drop, map}
use Rattle.msc_scanning.specs.Scans.{items_in, plain_item}
use Rattle.msc_scanning.specs.Words.{words_in}
use Rattle.msc_scanning.proofs.paths.items_of.Given as goal

abbrev pub invariant-loop-i : goal.invariant-loop-i
invariant-loop-i l =
    map plain_item l.items.items ++ items_in (words_in (drop l.i l.paths)) (drop l.i l.all) ≡ items_in (words_in l.paths) l.all
