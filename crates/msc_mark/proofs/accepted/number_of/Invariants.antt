use Rattle.std.proofs.Common.{◌≡◌, ◌<◌, ℕ, false, get_or}
use Rattle.msc_mark.specs.Accepting.{is_mark_for}
use Rattle.msc_mark.proofs.Looking.{no_mark}
use Rattle.msc_mark.proofs.accepted.number_of.Given as goal

abbrev pub invariant-loop-i : goal.invariant-loop-i
invariant-loop-i l =
    (k : ℕ) → k < l.i → is_mark_for l.queues l.e (get_or l.marks k no_mark) ≡ false
