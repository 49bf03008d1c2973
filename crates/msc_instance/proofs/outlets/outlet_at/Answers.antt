use Rattle.std.proofs.Common.{◌+◌, ◌-◌, ◌/◌, ◌<◌, ℕ, arith}
use Rattle.msc_execution.specs.Roles.{NumberedOutlet}
use Rattle.msc_instance.proofs.Finding.{in_range_all, in_range_up, in_range_down}
use Rattle.msc_instance.proofs.outlets.outlet_at.Goals as goal

pub loop-high-init : goal.loop-high-init
loop-high-init c = in_range_all (λ (o : NumberedOutlet). o.0) c.args.outlets.now c.args.queue c.requires.there

pub loop-high-preserved-then-outlets-middle : goal.loop-high-preserved-then-outlets-middle
loop-high-preserved-then-outlets-middle c =
    let middle : ℕ = c.loop-high.low + (c.loop-high.high - c.loop-high.low) / 2 in
    let lt : middle < c.loop-high.high = omega (arith, c.loop-high-test.true) in
    in_range_up (λ (o : NumberedOutlet). o.0) c.args.outlets.now c.args.queue c.loop-high.low middle
    c.loop-high.high
    c.index-outlets-middle.result c.loop-high.invariant c.requires.ascending lt c.if-outlets-middle.true

pub loop-high-preserved : goal.loop-high-preserved
loop-high-preserved c =
    let middle : ℕ = c.loop-high.low + (c.loop-high.high - c.loop-high.low) / 2 in
    let lt : middle < c.loop-high.high = omega (arith, c.loop-high-test.true) in
    in_range_down (λ (o : NumberedOutlet). o.0) c.args.outlets.now c.args.queue c.loop-high.low middle
    c.loop-high.high
    c.index-outlets-middle.result c.loop-high.invariant c.requires.ascending lt c.if-outlets-middle.false
