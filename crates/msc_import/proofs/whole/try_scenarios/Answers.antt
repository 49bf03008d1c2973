use Rattle.std.proofs.Common.{subst, sym, ◌∙◌}
use Rattle.msc_import.specs.Drawings.{AreFirst}
use Rattle.msc_import.proofs.whole.try_scenarios.Goals as goal

pub try_others-requires : goal.try_others-requires
try_others-requires c =
    let x = c.args.importing in let d = c.args.diagram.now in
    let lists = c.as_slice.ensures.value ∙ sym c.as_slice-2.ensures.value in
    subst (λ ls. AreFirst x.manner x.name.now d ls c.as_slice-3.result.now) lists
    (subst (AreFirst x.manner x.name.now d c.as_slice.result.now) (sym c.as_slice-3.ensures.value) c.in_ok-first.ensures.first)
