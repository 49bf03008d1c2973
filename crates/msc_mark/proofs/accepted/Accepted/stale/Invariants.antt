use Rattle.std.proofs.Common.{◌≡◌}
use Rattle.std.specs.List.{filter, range_with_len}
use Rattle.msc_race.specs.Views.{races_of}
use Rattle.msc_mark.specs.Accepting.{is_stale}
use Rattle.msc_mark.proofs.accepted.Accepted.stale.Given as goal

abbrev pub invariant-loop-e : goal.invariant-loop-e
invariant-loop-e l =
    l.list.items ≡ filter (is_stale l.self (races_of l.enforced)) (range_with_len 0 l.e)
