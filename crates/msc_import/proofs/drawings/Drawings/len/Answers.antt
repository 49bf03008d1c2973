use Rattle.std.proofs.Common.{ap, length, ◌∙◌}
use Rattle.msc_import.proofs.WholeLemmas.{each_drawn, each_size}
use Rattle.msc_import.proofs.drawings.Drawings.len.Goals as goal

pub returns : goal.returns
returns c =
    let x = c.self.inside in
    c.len.ensures ∙ x.lists.ok.0 ∙ each_size x.manner x.name.now x.diagram.now x.lists.items _ (each_drawn x.manner x.name.now x.diagram.now x.lists.items c.self.invariant.0) ∙ ap length c.self.view_is
