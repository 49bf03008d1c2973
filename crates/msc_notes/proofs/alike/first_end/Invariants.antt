use Rattle.std.proofs.Common.{map}
use Rattle.msc_notes.specs.Events.{act_view, end_view}
use Rattle.msc_notes.proofs.Firsts.{NoEndBefore}
use Rattle.msc_notes.proofs.alike.first_end.Given as goal

abbrev pub invariant-loop-f : goal.invariant-loop-f
invariant-loop-f l = NoEndBefore (map act_view l.events) (end_view l.end) l.f
