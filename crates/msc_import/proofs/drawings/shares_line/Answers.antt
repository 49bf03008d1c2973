use Rattle.msc_import.proofs.AllLemmas.{shares_none, shares_some}
use Rattle.msc_import.proofs.drawings.shares_line.Goals as goal

pub returns-in-Ok : goal.returns-in-Ok
returns-in-Ok c =
    shares_none c.args.own c.args.diagram.now c.args.given.now c.in_ok-walker.walker c.in_ok-walker.ensures c.in-Ok.field-0.items
    (rw (← c.steps.ensures, ← c.lines.ensures) c.in-Ok.ensures)

pub returns-in-Err-Shared : goal.returns-in-Err-Shared
returns-in-Err-Shared c =
    shares_some c.args.own c.args.diagram.now c.args.given.now c.in_ok-walker.walker c.in_ok-walker.ensures c.in-Err-Shared.field-0-0 c.in-Err-Shared.field-0-1
    (rw (← c.steps.ensures, ← c.lines.ensures) (rw c.in-Err-Shared.field-0-is at c.in-Err-Shared.ensures))
