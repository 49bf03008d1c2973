use Rattle.msc_report.specs.EventPositionTexts.{AreMadeEventPositions}
use Rattle.msc_report.proofs.event_position_texts.EventPositionTexts.new.Given as goal

-- the places of the events so far are made
abbrev pub invariant-loop-e : goal.invariant-loop-e
invariant-loop-e l = AreMadeEventPositions l.event_positions l.page.bytes.items l.spans.items l.e
