use Rattle.std.proofs.Common.{◌≡◌, ◌<◌, length, arith, subst, suc, set, ◌+◌}
use Rattle.msc_instance.specs.Active.{IsClosedFrom}
use Rattle.msc_instance.proofs.Zipped.{ZipsUpTo, upto_more, upto_all}
use Rattle.msc_instance.proofs.outlets.close_all.Goals as goal

pub loop-outlet-preserved : goal.loop-outlet-preserved
loop-outlet-preserved c =
    let lt : c.loop-outlet.outlet-index < length c.loop-outlet.outlets = omega arith in
    let r = upto_more IsClosedFrom c.loop-outlet.outlet-index c.args.outlets.now c.loop-outlet.outlets
    c.outlet-item.result c.close_one.new.outlet lt
    c.close_one.ensures c.loop-outlet.invariant in
    let s : suc c.loop-outlet.outlet-index ≡ c.loop-outlet.outlet-index + 1 = omega arith in
    subst (λ i. ZipsUpTo IsClosedFrom i c.args.outlets.now
    (set c.loop-outlet.outlets c.loop-outlet.outlet-index c.close_one.new.outlet)) s r

pub returns : goal.returns
returns c = upto_all IsClosedFrom c.loop-outlet.outlet-index c.args.outlets.now c.loop-outlet.outlets
    (omega arith) c.loop-outlet.invariant
