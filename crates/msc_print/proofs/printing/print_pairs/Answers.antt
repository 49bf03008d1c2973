use Rattle.std.proofs.Common.{◌≡◌, ◌∙◌, sym, subst, arith}
use Rattle.msc_print.specs.Prints.{Prints}
use Rattle.msc_print.proofs.PrintLemmas.{prints_none}
use Rattle.msc_print.proofs.RowLemmas.{count_event, count_rest, prints_event, prints_rest}
use Rattle.msc_print.proofs.printing.print_pairs.Goals as goal

pub loop-e-preserved : goal.loop-e-preserved
loop-e-preserved g c =
    let from = g.P.Pairs.from c.args.pairs.now in
    let after = g.R.Rows.after c.args.rows.now in
    let list : c.pairs-list.result.now ≡ from c.loop-e.e = c.pairs-list.ensures ∙ c.in-Ok.ensures.pairs in
    record {
      reached = c.in-Ok.ensures.reached;
      memo = c.print_list-next.ensures.memo;
      next = c.print_list-next.ensures.count ∙ count_event after from c.loop-e.e c.args.count c.loop-e.next c.pairs-list.result.now c.loop-e.invariant.next list;
      printed = λ runs are. prints_event after from (g.R.Rows.row_text c.args.rows.now runs) _ _ _ c.loop-e.e c.args.count c.loop-e.next c.pairs-list.result.now
          c.loop-e.invariant.next list (c.loop-e.invariant.printed runs are) (c.print_list-next.ensures.printed runs are);
    }

pub returns-then-has_ended-clause-printed : goal.returns-then-has_ended-clause-printed
returns-then-has_ended-clause-printed g c runs are =
    let within = c.loop-e-test.true in
    prints_rest (g.R.Rows.after c.args.rows.now) (g.P.Pairs.from c.args.pairs.now) (g.R.Rows.row_text c.args.rows.now runs) _ _ _
    c.loop-e.e (g.P.Pairs.size c.args.pairs.now) c.args.count c.loop-e.next (omega (arith, within, c.size-e-end.ensures))
    c.loop-e.invariant.next (c.loop-e.invariant.printed runs are) (λ ys. c.has_ended.ensures c.if-has_ended.true _)

pub returns-then-is_done-clause-count : goal.returns-then-is_done-clause-count
returns-then-is_done-clause-count g c =
    let within = c.loop-e-test.true in
    count_rest (g.R.Rows.after c.args.rows.now) (g.P.Pairs.from c.args.pairs.now)
    c.loop-e.e (g.P.Pairs.size c.args.pairs.now) c.args.count c.loop-e.next (omega (arith, within, c.size-e-end.ensures))
    c.loop-e.invariant.next (c.is_done.ensures.count c.if-is_done.true)

pub returns-then-is_done-clause-printed : goal.returns-then-is_done-clause-printed
returns-then-is_done-clause-printed g c runs are =
    let within = c.loop-e-test.true in
    prints_rest (g.R.Rows.after c.args.rows.now) (g.P.Pairs.from c.args.pairs.now) (g.R.Rows.row_text c.args.rows.now runs) _ _ _
    c.loop-e.e (g.P.Pairs.size c.args.pairs.now) c.args.count c.loop-e.next (omega (arith, within, c.size-e-end.ensures))
    c.loop-e.invariant.next (c.loop-e.invariant.printed runs are)
    (λ ys. subst (Prints c.loop-e.printer c.loop-e.printer) (sym (c.is_done.ensures.rows c.if-is_done.true runs ys)) (prints_none c.loop-e.printer))

pub returns-in-Err-clause-printed : goal.returns-in-Err-clause-printed
returns-in-Err-clause-printed g c runs are =
    let within = c.loop-e-test.true in
    prints_rest (g.R.Rows.after c.args.rows.now) (g.P.Pairs.from c.args.pairs.now) (g.R.Rows.row_text c.args.rows.now runs) _ _ _
    c.loop-e.e (g.P.Pairs.size c.args.pairs.now) c.args.count c.loop-e.next (omega (arith, within, c.size-e-end.ensures))
    c.loop-e.invariant.next (c.loop-e.invariant.printed runs are) (λ ys. c.stop.ensures _)
