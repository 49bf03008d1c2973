use Rattle.std.proofs.Common.{◌≡◌, ◌≤◌, ◌++◌, codes, length, take}
use Rattle.std.specs.List.{flat_map}
use Rattle.msc_report.specs.EventTexts.{AreTextsOf}
use Rattle.msc_chart.specs.Drawings.{Drawing}
use Rattle.msc_report.specs.Verdicts.{spaced}
use Rattle.msc_report.proofs.event_texts.EventTexts.run_line.Given as goal

-- the numbers so far stand in the line, in front of its room
abbrev pub invariant-loop-e : goal.invariant-loop-e
invariant-loop-e l = record {
  within : l.end ≤ length l.line.items;
  put : (d : Drawing) → AreTextsOf d l.self → take l.end l.line.items ≡ codes "run" ++ flat_map spaced (take l.e-index l.run);
}
