use Rattle.std.proofs.Common.{◌≡◌, ◌++◌, take}
use Rattle.std.specs.List.{flat_map}
use Rattle.msc_findings.specs.Formats.{mark_text}
use Rattle.msc_findings.proofs.format.FullFormat.print_marks.Given as goal

abbrev pub invariant-loop-event : goal.invariant-loop-event
invariant-loop-event l = l.page.bytes.items ≡ l.initial.page.bytes.items ++ flat_map (mark_text l.self) (take l.event-index l.events)
