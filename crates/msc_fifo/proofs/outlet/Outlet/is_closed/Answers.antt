use Rattle.std.proofs.Common.{ap}
use Rattle.msc_fifo.specs.Ends.{OutletState}
use Rattle.msc_fifo.proofs.outlet.Outlet.is_closed.Goals as goal

pub returns : goal.returns
returns c = ap (λ (s : OutletState). s.closed) c.self.view_is
