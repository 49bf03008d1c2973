use Rattle.std.proofs.Common.{◌≡◌}
use Rattle.msc_draw.specs.Notes.{noted}
use Rattle.msc_draw.proofs.notes.noted_within.Given as goal

abbrev pub invariant-loop-x : goal.invariant-loop-x
invariant-loop-x l = l.events.items ≡ noted l.table l.x
