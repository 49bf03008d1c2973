use Rattle.std.proofs.Common.{ℕ, ◌∙◌, arith}
use Rattle.msc_print.proofs.RowLemmas.{count_next, prints_next}
use Rattle.msc_print.proofs.printing.print_list.Goals as goal

pub loop-pair-preserved : goal.loop-pair-preserved
loop-pair-preserved g c =
    let i : ℕ = c.loop-pair.pair-index in
    let before = c.loop-pair.invariant.next in
    let after = g.R.Rows.after c.args.rows.now in
    record {
      memo = c.print_row-next.ensures.memo;
      next = c.print_row-next.ensures.count ∙ count_next after c.args.count c.loop-pair.next i c.args.pairs.now (omega (arith, c.loop-pair-test.true)) before;
      printed = λ runs are. prints_next after (g.R.Rows.row_text c.args.rows.now runs) _ _ _ c.args.count c.loop-pair.next i c.args.pairs.now
          (omega (arith, c.loop-pair-test.true)) before (c.loop-pair.invariant.printed runs are) (c.print_row-next.ensures.printed runs are);
    }
