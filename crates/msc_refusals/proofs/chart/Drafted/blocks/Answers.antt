use Rattle.std.proofs.Common.{ℕ, get_or, refl, List, [], ◌∷◌, ◌++◌, take, ap, sym, ◌∙◌, subst}
use Rattle.std.proofs.lemmas.List.{take_more}
use Rattle.msc_chart.specs.declared.fault.ChartFault.{ChartFault}
use Rattle.msc_chart.specs.declared.fault.ChartFault.TheVariants as charts
use Rattle.msc_refusals.specs.Charts.{AreBlocks}
use Rattle.msc_refusals.proofs.BlockLemmas.{blocks_more}
use Rattle.msc_refusals.proofs.chart.Drafted.blocks.Goals as goal

pub loop-fault-preserved : goal.loop-fault-preserved
loop-fault-preserved c =
    let r = c.args.lines.now.refused in
    let t = c.args.self.now.draft.now in
    let i = c.loop-fault.fault-index in
    let faults = c.args.faults.now in
    let fault = get_or faults i charts.TooManyInstances in
    let more = blocks_more r t (take i faults) fault c.loop-fault.bytes.items c.in_ok-block.block.items c.loop-fault.invariant c.in_ok-block.ensures in
    let next = take_more faults i charts.TooManyInstances c.loop-fault-test.true ∙ ap (λ (f : ChartFault). take i faults ++ f ∷ []) refl in
    let bytes = c.in_ok-extend_from_slice.ensures.items ∙ ap (λ (l : List ℕ). c.loop-fault.bytes.items ++ l) c.as_slice.ensures.value in
    subst (λ (fs : List ChartFault). AreBlocks r t fs c.extend_from_slice.new.self.items) (sym next)
    (subst (AreBlocks r t (take i faults ++ fault ∷ [])) (sym bytes) more)
