use Rattle.std.proofs.Common.{◌≡◌, ◌<◌, Some, slice_get, ap, length, sym, subst, ◌∙◌}
use Rattle.msc_import.proofs.WholeLemmas.{each_at, each_drawn, each_size}
use Rattle.msc_import.specs.Drawings.{scenario_with}
use Rattle.msc_import.proofs.drawings.Drawings.scenario.Goals as goal

pub index-given-requires : goal.index-given-requires
index-given-requires c =
    let x = c.self.inside in
    let size = x.lists.ok.0 ∙ each_size x.manner x.name.now x.diagram.now x.lists.items _ (each_drawn x.manner x.name.now x.diagram.now x.lists.items c.self.invariant.0) ∙ ap length c.self.view_is in
    subst (λ n. c.args.i < n) (sym size) c.requires

pub returns-in-Ok-clause-given : goal.returns-in-Ok-clause-given
returns-in-Ok-clause-given c =
    let x = c.self.inside in
    let each = each_drawn x.manner x.name.now x.diagram.now x.lists.items c.self.invariant.0 in
    let size = each_size x.manner x.name.now x.diagram.now x.lists.items _ each ∙ ap length c.self.view_is in
    let is = ap (scenario_with x.manner x.name.now x.diagram.now) (sym c.index-given.ensures) ∙ c.in-Ok.ensures.given in
    subst (λ all. slice_get all c.args.i ≡ Some c.in-Ok.scenario) c.self.view_is
    (each_at x.manner x.name.now x.diagram.now x.lists.items _ c.args.i c.index-given.result.now c.in-Ok.scenario each
    (subst (λ n. c.args.i < n) (sym size) c.requires) is)
