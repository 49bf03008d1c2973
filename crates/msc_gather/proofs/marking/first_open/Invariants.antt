use Rattle.std.proofs.Common.{ℕ, ◌≤◌, ◌<◌, IsTrue}
use Rattle.msc_gather.specs.Marks.{is_marked}
use Rattle.msc_gather.proofs.marking.first_open.Given as goal

abbrev pub invariant-loop-x : goal.invariant-loop-x
invariant-loop-x l = (x : ℕ) → l.start ≤ x → x < l.x → IsTrue (is_marked l.marks x)
