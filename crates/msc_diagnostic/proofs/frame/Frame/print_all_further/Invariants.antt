use Rattle.std.proofs.Common.{◌≡◌, ◌++◌, take}
use Rattle.std.specs.List.{flat_map}
use Rattle.msc_diagnostic.specs.Rows.{further_row}
use Rattle.msc_diagnostic.proofs.frame.Frame.print_all_further.Given as goal

abbrev pub invariant-loop-row : goal.invariant-loop-row
invariant-loop-row l = l.out.items ≡ l.initial.out.items ++ flat_map (λ row. further_row l.self row.now) (take l.row-index l.rows)
