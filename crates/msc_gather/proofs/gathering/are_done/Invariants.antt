use Rattle.std.proofs.Common.{ℕ, ◌<◌, IsTrue}
use Rattle.msc_gather.specs.Marks.{is_marked}
use Rattle.msc_gather.proofs.gathering.are_done.Given as goal

abbrev pub invariant-loop-e : goal.invariant-loop-e
invariant-loop-e l = (e : ℕ) → e < l.e → IsTrue (is_marked l.marks e) → IsTrue (is_marked l.done e)
