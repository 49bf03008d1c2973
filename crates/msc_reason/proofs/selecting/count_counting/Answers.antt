use Rattle.std.proofs.Common.{◌+◌, length, sym, ap, ◌∙◌, arith}
use Rattle.msc_race.specs.Views.{races_of}
use Rattle.msc_reason.proofs.Counted.{all_counted}
use Rattle.msc_reason.proofs.Sums.{count_more, kept_all, kept_few, kept_none}
use Rattle.msc_reason.specs.Counting.{counts}
use Rattle.msc_reason.specs.Marked.{cause_in}
use Rattle.msc_reason.proofs.selecting.count_counting.Goals as goal

pub returns-then-is_empty-clause-count : goal.returns-then-is_empty-clause-count
returns-then-is_empty-clause-count c =
    let e = c.args.enforced.now in
    c.requires ∙ sym (ap length (all_counted c.args.allowed (cause_in e) (races_of e) (sym c.is_empty.ensures ∙ c.if-is_empty.true)))

pub loop-e-init : goal.loop-e-init
loop-e-init c = record {
  reached = c.new-walk.ensures c.args.enforced.now.chart.events;
  count = let e = c.args.enforced.now in sym (ap length (kept_none e (counts c.args.allowed (cause_in e))));
}

pub overflow_cast-count : goal.overflow_cast-count
overflow_cast-count c =
    let e = c.args.enforced.now in
    let test = counts c.args.allowed (cause_in e) in
    let more = count_more e test c.loop-e.e c.loop-e.count c.next_counting.new.list.items c.loop-e.invariant.count c.in_ok-next_counting.ensures.list in
    let within = c.loop-e-test.true in
    let few = kept_few e test (c.loop-e.e + 1) (omega (arith, within, c.events-e-end.ensures)) in
    omega (arith, more, few, c.requires, c.ranges.races.fits, c.len.ensures)

pub overflow_add-count : goal.overflow_add-count
overflow_add-count c =
    let e = c.args.enforced.now in
    let test = counts c.args.allowed (cause_in e) in
    let more = count_more e test c.loop-e.e c.loop-e.count c.next_counting.new.list.items c.loop-e.invariant.count c.in_ok-next_counting.ensures.list in
    let within = c.loop-e-test.true in
    let few = kept_few e test (c.loop-e.e + 1) (omega (arith, within, c.events-e-end.ensures)) in
    omega (arith, more, few, c.requires, c.ranges.races.fits, c.len.ensures)

pub loop-e-preserved : goal.loop-e-preserved
loop-e-preserved c =
    let e = c.args.enforced.now in
    let test = counts c.args.allowed (cause_in e) in
    let more = count_more e test c.loop-e.e c.loop-e.count c.next_counting.new.list.items c.loop-e.invariant.count c.in_ok-next_counting.ensures.list in
    record { reached = c.in_ok-next_counting.ensures.reached; count = omega (arith, more, c.len.ensures) }

pub returns-clause-few : goal.returns-clause-few
returns-clause-few c =
    let e = c.args.enforced.now in
    let end = c.loop-e.auto.e-end in
    let few = kept_few e (counts c.args.allowed (cause_in e)) c.loop-e.e (omega (arith, end, c.events-e-end.ensures)) in
    let is = c.loop-e.invariant.count in
    omega (arith, is, few, c.requires)

pub returns-clause-count : goal.returns-clause-count
returns-clause-count c =
    let e = c.args.enforced.now in
    let end = c.loop-e.auto.e-end in
    let past = c.loop-e-test.false in
    c.loop-e.invariant.count ∙ ap length (kept_all e (counts c.args.allowed (cause_in e)) c.loop-e.e (omega (arith, end, past, c.events-e-end.ensures)))
