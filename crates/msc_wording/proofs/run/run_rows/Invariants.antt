use Rattle.std.proofs.Common.{◌≡◌, map, take}
use Rattle.std.specs.List.{enumerate_from}
use Rattle.std.specs.String.{string_bytes}
use Rattle.msc_wording.specs.Runs.{run_row}
use Rattle.msc_wording.proofs.run.run_rows.Given as goal

-- the rows of the steps so far are there
abbrev pub invariant-loop-index : goal.invariant-loop-index
invariant-loop-index l =
    map string_bytes l.rows.items
    ≡ map (λ at. run_row (map (λ name. name.now) l.names) l.width at.0 at.1) (enumerate_from 1 (take l.index l.steps))
