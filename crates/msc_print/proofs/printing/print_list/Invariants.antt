use Rattle.std.proofs.Common.{◌≡◌, ℕ, List, take}
use Rattle.msc_print.specs.Prints.{Prints}
use Rattle.msc_print.specs.Rows.{count_after, rows_from}
use Rattle.msc_print.proofs.printing.print_list.Given as goal

-- the rows of the pairs so far are printed
abbrev pub invariant-loop-pair : goal.invariant-loop-pair
invariant-loop-pair g l = record {
  memo : g.R.Rows.has_memo l.rows l.memo;
  next : l.next ≡ count_after (g.R.Rows.after l.rows) l.count (take l.pair-index l.pairs);
  printed : (runs : ℕ × ℕ → List ℕ) → g.R.Rows.are_runs l.rows runs
      → Prints l.fn.printer l.printer (rows_from (g.R.Rows.row_text l.rows runs) (g.R.Rows.after l.rows) l.count (take l.pair-index l.pairs));
}
