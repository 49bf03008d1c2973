use Rattle.std.proofs.Common.{drop}
use Rattle.msc_scan.specs.Walks.{names_of}
use Rattle.msc_scanning.proofs.Scanned.{FoundSoFar}
use Rattle.msc_scanning.specs.Words.{words_in}
use Rattle.msc_scanning.proofs.paths.all_entries.Given as goal

abbrev pub invariant-loop-path : goal.invariant-loop-path
invariant-loop-path g l = FoundSoFar (names_of l.args.skips.now) (words_in l.args.paths.now) (words_in (drop l.path-index l.args.paths.now)) l.all.items
