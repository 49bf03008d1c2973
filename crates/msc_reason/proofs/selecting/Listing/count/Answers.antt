use Rattle.std.proofs.Common.{◌+◌, length, sym, ap, ◌∙◌, arith}
use Rattle.msc_reason.proofs.Sums.{count_more, kept_all, kept_few, kept_none}
use Rattle.msc_reason.specs.Counting.{is_listed}
use Rattle.msc_reason.specs.Marked.{cause_in}
use Rattle.msc_reason.proofs.selecting.Listing.count.Goals as goal

pub loop-e-init : goal.loop-e-init
loop-e-init c = record {
  reached = c.new-stream.ensures c.args.self.now.judged.chart.events;
  count = let e = c.args.self.now.judged in sym (ap length (kept_none e (is_listed e c.args.self.now.allowed c.args.self.now.closest (cause_in e))));
}

pub overflow_cast-count : goal.overflow_cast-count
overflow_cast-count c =
    let e = c.args.self.now.judged in
    let test = is_listed e c.args.self.now.allowed c.args.self.now.closest (cause_in e) in
    let more = count_more e test c.loop-e.e c.loop-e.count c.next.new.stream.races.items c.loop-e.invariant.count c.in_ok-next.ensures.list in
    let within = c.loop-e-test.true in
    let few = kept_few e test (c.loop-e.e + 1) (omega (arith, within, c.events-e-end.ensures)) in
    omega (arith, more, few, c.requires, c.ranges.races.fits, c.len.ensures)

pub overflow_add-count : goal.overflow_add-count
overflow_add-count c =
    let e = c.args.self.now.judged in
    let test = is_listed e c.args.self.now.allowed c.args.self.now.closest (cause_in e) in
    let more = count_more e test c.loop-e.e c.loop-e.count c.next.new.stream.races.items c.loop-e.invariant.count c.in_ok-next.ensures.list in
    let within = c.loop-e-test.true in
    let few = kept_few e test (c.loop-e.e + 1) (omega (arith, within, c.events-e-end.ensures)) in
    omega (arith, more, few, c.requires, c.ranges.races.fits, c.len.ensures)

pub loop-e-preserved : goal.loop-e-preserved
loop-e-preserved c =
    let e = c.args.self.now.judged in
    let test = is_listed e c.args.self.now.allowed c.args.self.now.closest (cause_in e) in
    let more = count_more e test c.loop-e.e c.loop-e.count c.next.new.stream.races.items c.loop-e.invariant.count c.in_ok-next.ensures.list in
    record { reached = c.in_ok-next.ensures.reached; count = omega (arith, more, c.len.ensures) }

pub returns-clause-few : goal.returns-clause-few
returns-clause-few c =
    let e = c.args.self.now.judged in
    let end = c.loop-e.auto.e-end in
    let few = kept_few e (is_listed e c.args.self.now.allowed c.args.self.now.closest (cause_in e)) c.loop-e.e (omega (arith, end, c.events-e-end.ensures)) in
    let is = c.loop-e.invariant.count in
    omega (arith, is, few, c.requires)

pub returns-clause-count : goal.returns-clause-count
returns-clause-count c =
    let e = c.args.self.now.judged in
    let end = c.loop-e.auto.e-end in
    let past = c.loop-e-test.false in
    c.loop-e.invariant.count ∙ ap length (kept_all e (is_listed e c.args.self.now.allowed c.args.self.now.closest (cause_in e)) c.loop-e.e (omega (arith, end, past, c.events-e-end.ensures)))
