use Rattle.std.proofs.Common.{sym, ◌∙◌}
use Rattle.msc_mark.specs.Accepting.{is_mark_for}
use Rattle.msc_mark.proofs.Looking.{first_is, none_is}
use Rattle.msc_mark.proofs.accepted.number_of.Goals as goal

pub returns-then-is_mark_for : goal.returns-then-is_mark_for
returns-then-is_mark_for c =
    first_is (is_mark_for c.args.queues c.args.e) c.args.marks.now c.loop-i.i c.index-marks-i.result c.loop-i-test.true c.index-marks-i.is (sym c.is_mark_for.ensures ∙ c.if-is_mark_for.true) c.loop-i.invariant

pub returns : goal.returns
returns c =
    none_is (is_mark_for c.args.queues c.args.e) c.args.marks.now c.loop-i.i c.loop-i-test.false c.loop-i.invariant
