use Rattle.std.proofs.Common.{ℕ, ◌<◌, get_or}
use Rattle.msc_execution.specs.Roles.{NumberedOutlet}
use Rattle.msc_instance.specs.Fitting.{HasRoomFor}
use Rattle.msc_instance.proofs.fitting.have_room.Given as goal

abbrev pub invariant-loop-outlet : goal.invariant-loop-outlet
invariant-loop-outlet l =
    (k : ℕ) (d : NumberedOutlet) → k < l.outlet-index
    → HasRoomFor (get_or l.outlets k d).1 (get_or l.counts (get_or l.outlets k d).0 0)
