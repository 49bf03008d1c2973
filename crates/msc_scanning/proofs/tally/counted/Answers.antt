use Rattle.std.proofs.Common.{◌+◌, drop, sym, ap, ◌∙◌}
use Rattle.msc_scanning.specs.Outcomes.{with_all}
use Rattle.msc_scanning.proofs.Folds.{counted_end, counted_more}
use Rattle.msc_scanning.proofs.tally.counted.Goals as goal

pub loop-one-preserved : goal.loop-one-preserved
loop-one-preserved c =
    let l = c.loop-one in let others = c.args.others.now in
    ap (with_all (drop (l.one-index + 1) others)) c.with-tally.ensures
    ∙ sym (counted_more others l.one-index l.tally _ c.loop-one-test.true) ∙ l.invariant

pub returns : goal.returns
returns c =
    let l = c.loop-one in
    sym (counted_end c.args.others.now l.one-index l.tally c.loop-one-test.false) ∙ l.invariant
