use Rattle.std.proofs.Common.{length, arith, map, refl, subst, sym}
use Rattle.std.specs.Map.Iter.{deref}
use Rattle.std.proofs.lemmas.Option.{slice_get_read}
use Rattle.msc_chart.specs.Faults.{IsUnknown}
use Rattle.msc_chart.proofs.ListLemmas.{clash}
use Rattle.msc_chart.proofs.Places.{none-next, least_found, none_found}
use Rattle.msc_chart.proofs.check.unknown_header.Goals as goal

pub returns-then-is_unknown : goal.returns-then-is_unknown
returns-then-is_unknown c =
    least_found (λ d. d.name) (IsUnknown (map deref c.args.instances.now.keys)) c.args.header.now _ _ c.loop-k.invariant (slice_get_read c.args.header.now (length c.args.header.now) c.loop-k.k c.index-header-k.result refl (omega arith) c.index-header-k.is) (subst (IsUnknown (map deref c.args.instances.now.keys)) c.as_slice.ensures (c.is_unknown.ensures.0 c.if-is_unknown.true))

pub loop-k-preserved : goal.loop-k-preserved
loop-k-preserved c =
    none-next (λ d. d.name) (IsUnknown (map deref c.args.instances.now.keys)) c.args.header.now _ _ c.loop-k.invariant (slice_get_read c.args.header.now (length c.args.header.now) c.loop-k.k c.index-header-k.result refl (omega arith) c.index-header-k.is) (λ u. clash (c.is_unknown.ensures.1 (subst (IsUnknown (map deref c.args.instances.now.keys)) (sym c.as_slice.ensures) u)) c.if-is_unknown.false)

pub returns : goal.returns
returns c = none_found (λ d. d.name) (IsUnknown (map deref c.args.instances.now.keys)) _ _ c.loop-k.invariant (omega arith)
