use Rattle.msc_report.specs.Spans.{AreMade}
use Rattle.msc_report.proofs.event_texts.EventTexts.new.Given as goal

abbrev pub invariant-loop-e : goal.invariant-loop-e
invariant-loop-e l = AreMade l.chart l.page.bytes.items l.spans.items l.e
