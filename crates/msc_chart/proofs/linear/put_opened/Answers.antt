use Rattle.std.proofs.Common.{◌<◌, length, arith}
use Rattle.msc_chart.specs.Charts.{line, segment, partner}
use Rattle.msc_chart.proofs.linear.put_opened.Goals as goal

pub put-requires-clause-event : goal.put-requires-clause-event
unfolding partner
put-requires-clause-event c = c.requires.sorting.0.ready.matched.in_range c.args.e c.requires.event

pub move_first-next-requires-clause-line : goal.move_first-next-requires-clause-line
unfolding line
move_first-next-requires-clause-line c =
    let l = c.in_ok-put.ensures.sorting.0.ready.on_lines.on_line c.args.e c.requires.event in
    omega (arith, l)

pub overflow_add-events : goal.overflow_add-events
unfolding segment
overflow_add-events c =
    let k = c.move_first-next.ensures.sorting.0 in
    let within : c.move_first-next.result < length c.args.events.now = omega arith in
    let s = k.ready.on_lines.few c.move_first-next.result within in
    omega (arith, s, k.ready.few)
