use Rattle.std.proofs.Common.{arith, map}
use Rattle.std.specs.Map.Iter.{deref}
use Rattle.std.proofs.lemmas.Option.{slice_get-get_or}
use Rattle.msc_chart.specs.Events.{address_of}
use Rattle.msc_chart.specs.Views.{mark_view}
use Rattle.msc_chart.specs.Faults.{IsUnknown, OfEnd}
use Rattle.msc_chart.proofs.ListLemmas.{clash}
use Rattle.msc_chart.proofs.Places.{none-next, least_found, none_found}
use Rattle.msc_chart.proofs.check.unknown_address.Goals as goal

pub returns-then-is_away : goal.returns-then-is_away
returns-then-is_away c =
    least_found mark_view (OfEnd (λ x. IsUnknown (map deref c.args.instances.now.keys) (address_of x))) c.args.marks.now _ _ c.loop-e.invariant (slice_get-get_or c.args.marks.now c.loop-e.e _ c.loop-e-test.true) (c.is_away.ensures.0 c.if-is_away.true)

pub loop-e-preserved : goal.loop-e-preserved
loop-e-preserved c =
    none-next mark_view (OfEnd (λ x. IsUnknown (map deref c.args.instances.now.keys) (address_of x))) c.args.marks.now _ _ c.loop-e.invariant (slice_get-get_or c.args.marks.now c.loop-e.e _ c.loop-e-test.true) (λ u. clash (c.is_away.ensures.1 u) c.if-is_away.false)

pub returns : goal.returns
returns c = none_found mark_view (OfEnd (λ x. IsUnknown (map deref c.args.instances.now.keys) (address_of x))) _ _ c.loop-e.invariant (omega arith)
