use Rattle.std.proofs.Common.{◌≡◌, ◌+◌, List, sym, subst, arith}
use Rattle.msc_report.specs.declared.event_position_texts.EventPositionSpan.{EventPositionSpan}
use Rattle.msc_report.specs.EventPositionTexts.{AreMadeEventPositions}
use Rattle.msc_report.proofs.MadeEventPositions.{event_position_more, event_position_all}
use Rattle.msc_report.proofs.event_position_texts.EventPositionTexts.new.Goals as goal

pub loop-e-preserved : goal.loop-e-preserved
loop-e-preserved c =
    let bytes = c.print_event_position.new.page.bytes.items in
    subst (λ (spans : List EventPositionSpan). AreMadeEventPositions c.args.event_positions.now bytes spans (c.loop-e.e + 1)) (sym c.in_ok-push.ensures.items)
    (event_position_more c.args.event_positions.now c.loop-e.page.bytes.items bytes c.loop-e.spans.items c.loop-e.e c.in_ok-span.span c.loop-e.invariant c.in_ok-span.ensures)

pub returns : goal.returns
returns c =
    let all : c.loop-e.e ≡ c.args.count = let past = c.loop-e-test.false in let most = c.loop-e.auto.e-end in omega (arith, past, most) in
    event_position_all c.args.event_positions.now _ _ c.loop-e.e c.args.count all c.loop-e.invariant
