use Rattle.std.proofs.Common.{◌≡◌, ◌+◌, List, length, sym, subst, arith}
use Rattle.msc_report.specs.declared.event_texts.Span.{Span}
use Rattle.msc_report.specs.Spans.{AreMade}
use Rattle.msc_report.proofs.MadeTexts.{made_more, made_all, made_kept}
use Rattle.msc_report.proofs.event_texts.EventTexts.new.Goals as goal

pub loop-e-preserved : goal.loop-e-preserved
loop-e-preserved c =
    let bytes = c.print_parts.new.page.bytes.items in
    subst (λ (spans : List Span). AreMade c.args.chart.now bytes spans (c.loop-e.e + 1)) (sym c.in_ok-push.ensures.items)
    (made_more c.args.chart.now c.loop-e.page.bytes.items bytes c.loop-e.spans.items c.loop-e.e c.in_ok-span.span c.loop-e.invariant c.in_ok-span.ensures)

pub returns : goal.returns
returns c =
    let all : c.loop-e.e ≡ length c.args.chart.now.events =
    let past = c.loop-e-test.false in let most = c.loop-e.auto.e-end in let number = c.events-e-end.ensures.number in omega (arith, past, most, number) in
    let kept = made_kept c.args.chart.now c.loop-e.page.bytes.items _ c.loop-e.spans.items c.loop-e.e c.loop-e.invariant in
    made_all c.args.chart.now _ _ c.loop-e.e all (rw c.in_ok-extend_from_slice.ensures.items kept)
