use Rattle.std.proofs.Common.{◌≡◌, ℕ, List}
use Rattle.msc_print.specs.Prints.{Prints}
use Rattle.msc_print.specs.Rows.{below, count_after, rows_from}
use Rattle.msc_print.proofs.printing.print_pairs.Given as goal

-- the rows of the pairs of the events so far are printed
abbrev pub invariant-loop-e : goal.invariant-loop-e
invariant-loop-e g l =
    let so_far = below (g.P.Pairs.from l.pairs) l.e in
    record {
      reached : g.P.Pairs.has_reached l.pairs l.walk l.e;
      memo : g.R.Rows.has_memo l.rows l.memo;
      next : l.next ≡ count_after (g.R.Rows.after l.rows) l.count so_far;
      printed : (runs : ℕ × ℕ → List ℕ) → g.R.Rows.are_runs l.rows runs
          → Prints l.fn.printer l.printer (rows_from (g.R.Rows.row_text l.rows runs) (g.R.Rows.after l.rows) l.count so_far);
    }
