use Rattle.std.proofs.Common.{ap, ◌∙◌}
use Rattle.msc_fifo.specs.Ends.{unended_in}
use Rattle.msc_fifo.proofs.inlet.Inlet.unended.Goals as goal

pub returns-clause-count : goal.returns-clause-count
returns-clause-count c = c.self.invariant.3 ∙ ap unended_in c.self.view_is
