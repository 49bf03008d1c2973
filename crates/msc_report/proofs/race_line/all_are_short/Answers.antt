use Rattle.std.proofs.Common.{length, arith, rules}
use Rattle.std.proofs.lemmas.List.{take_all, take_more}
use Rattle.std.proofs.lemmas.List.Elements.{All-push}
use Rattle.msc_report.specs.Spans.{AreShort, no_span}
use Rattle.msc_report.proofs.race_line.all_are_short.Goals as goal

pub loop-span-preserved : goal.loop-span-preserved
loop-span-preserved c =
    rw (take_more c.args.spans.now c.loop-span.span-index no_span c.loop-span-test.true)
    (All-push (λ s. AreShort (length c.args.bytes.now) s s) _ _ c.loop-span.invariant (c.are_short.ensures (search rules)))

pub returns : goal.returns
returns c = λ _. rw (← take_all c.loop-span.span-index c.args.spans.now (omega (arith, c.loop-span-test.false))) c.loop-span.invariant
