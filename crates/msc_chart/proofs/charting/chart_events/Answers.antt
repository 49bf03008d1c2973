use Rattle.std.proofs.Common.{ℕ, map, slice_get, ap, subst, sym, ◌∙◌}
use Rattle.msc_chart.specs.Faults.{IsTwice}
use Rattle.msc_chart.specs.Views.{mark_view}
use Rattle.msc_chart.proofs.TableLemmas.{act-at}
use Rattle.msc_chart.proofs.charting.chart_events.Goals as goal

pub charted-requires-clause-own : goal.charted-requires-clause-own
charted-requires-clause-own c =
    let acts = ap (map mark_view) c.as_slice-marks.ensures.keys ∙ c.requires.acts in
    ap (λ xs. slice_get xs c.loop-e.e) acts ∙ act-at c.args.events.now c.loop-e.e _ c.loop-e-test.true

pub charted-requires-clause-once : goal.charted-requires-clause-once
charted-requires-clause-once c =
    let acts = ap (map mark_view) c.as_slice-marks.ensures.keys in
    subst (λ xs. (k : ℕ) → IsTwice xs k → ⊥) (sym acts) c.requires.once
