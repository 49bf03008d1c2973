use Rattle.std.proofs.lemmas.Result.{err_from_is_err_and}
use Rattle.msc_judge.proofs.Asked.{all_tables, tables_of}
use Rattle.msc_print.proofs.Putting.{begins_none}
use Rattle.msc_text.proofs.judging.judge_in.Goals as goal

pub returns-in_err-renderer-in-Lines : goal.returns-in_err-renderer-in-Lines
returns-in_err-renderer-in-Lines g c =
    let exit = err_from_is_err_and c.from_residual.result c.from_residual.ensures.1 in
    let tables = all_tables c.args.enforced c.facts.ensures.order c.facts.ensures.chart c.the_witness_reverses.ensures.exists c.short_witnesses_show.ensures.exists in
    rw (exit.1, exit.2) (record { tables = tables_of c.args.enforced tables.0 tables.1; are = tables.2; written = begins_none _ _; found = tt })

pub returns-in_ok-renderer-in-Lines : goal.returns-in_ok-renderer-in-Lines
returns-in_ok-renderer-in-Lines g c = rw (c.in-Lines.is, ← c.in_ok-renderer-in-Lines.ensures.style) c.judge.ensures

pub returns-in_err-renderer-in-Editor : goal.returns-in_err-renderer-in-Editor
returns-in_err-renderer-in-Editor g c =
    let exit = err_from_is_err_and c.from_residual-in_err-renderer-in-Editor.result c.from_residual-in_err-renderer-in-Editor.ensures.1 in
    let tables = all_tables c.args.enforced c.facts.ensures.order c.facts.ensures.chart c.the_witness_reverses.ensures.exists c.short_witnesses_show.ensures.exists in
    rw (exit.1, exit.2) (record { tables = tables_of c.args.enforced tables.0 tables.1; are = tables.2; written = begins_none _ _; found = tt })

pub returns-in_ok-renderer-in-Editor : goal.returns-in_ok-renderer-in-Editor
returns-in_ok-renderer-in-Editor g c =
    rw (c.in-Editor.is, ← c.in_ok-renderer-in-Editor.ensures.event_positions, ← c.in_ok-renderer-in-Editor.ensures.ring, ← c.for_editors.ensures) c.judge-in-Editor.ensures
