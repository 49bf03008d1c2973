use Rattle.std.proofs.Common.{length, sym}
use Rattle.std.proofs.lemmas.Bool.{eqb-true}
use Rattle.msc_links.proofs.Ruling.{ruled_by_none, ruled_by_tables}
use Rattle.msc_links.proofs.queues.queues_of.Goals as goal

pub returns-then-is_empty-2-clause-outcome : goal.returns-then-is_empty-2-clause-outcome
returns-then-is_empty-2-clause-outcome c =
    let text = c.args.text.now in
    let given = c.args.given.now in
    ruled_by_none c.args.usual text given c.args.names.now (eqb-true (length text) 0 (sym c.if-is_empty.ensures)) (eqb-true (length given) 0 (sym c.if-is_empty-2.ensures))

pub returns-clause-outcome : goal.returns-clause-outcome
returns-clause-outcome c =
    ruled_by_tables c.args.usual c.args.text.now c.args.given.now c.args.names.now c.in-Ok.table c.in-Ok-table_of.table
    c.in-Ok.ensures.1 c.in-Ok-table_of.ensures.1 c.tabled_links.result c.in-Ok.ensures.0 c.in-Ok-table_of.ensures.0
    c.tabled_links.ensures.usual c.tabled_links.ensures.kinds
