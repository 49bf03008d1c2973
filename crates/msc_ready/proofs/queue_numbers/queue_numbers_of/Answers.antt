use Rattle.std.proofs.Common.{◌≡◌, arith, subst}
use Rattle.msc_chart.specs.Wirings.{size, wired_by}
use Rattle.msc_ready.specs.QueueNumbers.{AreQueueNumbersTo}
use Rattle.msc_ready.proofs.Numbering.{no_numbers, more_numbers}
use Rattle.msc_ready.proofs.queue_numbers.queue_numbers_of.Goals as goal

pub loop-x-init : goal.loop-x-init
loop-x-init c = no_numbers (wired_by c.args.wiring.now) _ c.new-numbers.ensures.items

pub loop-x-preserved : goal.loop-x-preserved
loop-x-preserved c =
    more_numbers (wired_by c.args.wiring.now) c.loop-x.x c.queue_number.result c.loop-x.numbers.items _
    c.loop-x.invariant c.in_ok-push.ensures.items c.queue_number.ensures

pub returns : goal.returns
returns c =
    let done : c.loop-x.x ≡ size c.args.wiring.now = omega arith in
    subst (λ n. AreQueueNumbersTo (wired_by c.args.wiring.now) n c.loop-x.numbers.items) done c.loop-x.invariant
