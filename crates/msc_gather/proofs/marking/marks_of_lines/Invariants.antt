use Rattle.std.proofs.Common.{ℕ, ◌<◌, [], get_or, map}
use Rattle.msc_chart.specs.Wirings.{wired_by}
use Rattle.msc_gather.specs.Marks.{IsLineLog, AreMarkedTo}
use Rattle.msc_gather.proofs.marking.marks_of_lines.Given as goal

abbrev pub invariant-loop-i : goal.invariant-loop-i
invariant-loop-i l = record {
  logs : (i : ℕ) → i < l.i → IsLineLog (wired_by l.w) i (get_or (map (λ v. v.items) l.logs) i []);
  marks : AreMarkedTo (wired_by l.w) (map (λ v. v.items) l.logs) l.i l.marks.items;
}
