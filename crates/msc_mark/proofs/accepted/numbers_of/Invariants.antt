use Rattle.std.proofs.Common.{◌≡◌, ◌<◌, ℕ, get_or, length}
use Rattle.std.specs.List.{position_or_len}
use Rattle.msc_mark.specs.Accepting.{is_mark_for}
use Rattle.msc_mark.proofs.accepted.numbers_of.Given as goal

abbrev pub invariant-loop-e : goal.invariant-loop-e
invariant-loop-e l = record {
  each : length l.at.items ≡ l.e;
  own : (e : ℕ) → e < l.e → get_or l.at.items e 0 ≡ position_or_len (is_mark_for l.queues e) l.marks;
}
