use Rattle.std.proofs.Common.{arith}
use Rattle.msc_fifo.proofs.outlet.Outlet.left.Goals as goal

pub returns : goal.returns
returns c =
    let few = c.self.invariant.2 in
    let long = c.self.inside.put.ok.0 in
    rw (← c.self.view_is) (omega arith)
