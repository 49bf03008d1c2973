use Rattle.std.proofs.Common.{◌≡◌, ◌++◌, drop, map}
use Rattle.msc_scanning.specs.Scans.{file, plain_item}
use Rattle.msc_scanning.proofs.paths.put_path.Given as goal

abbrev pub invariant-loop-entry : goal.invariant-loop-entry
invariant-loop-entry l =
    map plain_item l.items.items ++ map file (drop l.entry-index l.entries) ≡ map plain_item l.initial.items.items ++ map file l.entries
