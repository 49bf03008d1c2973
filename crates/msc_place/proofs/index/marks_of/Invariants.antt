use Rattle.std.proofs.Common.{◌≡◌, ◌+◌, ◌*◌, length}
use Rattle.msc_place.specs.declared.index.TheConstants.{STEP}
use Rattle.msc_place.specs.Positions.{IsPosition}
use Rattle.msc_place.specs.Marks.{AreMarksTo}
use Rattle.msc_place.proofs.index.marks_of.Given as goal

abbrev pub invariant-loop-k : goal.invariant-loop-k
invariant-loop-k l = record {
  here : IsPosition l.text (l.k * STEP) l.here.line l.here.column;
  each : length l.marks.items ≡ l.k + 1;
  known : AreMarksTo l.text l.marks.items (l.k + 1);
}
