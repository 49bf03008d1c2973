use Rattle.std.proofs.Common.{◌≡◌, ℕ, ◌<◌, false}
use Rattle.msc_answer.specs.Naming.{can_pair}
use Rattle.msc_answer.proofs.naming.second_with.Given as goal

-- none of the events so far is the second of a pair
abbrev pub invariant-loop-f : goal.invariant-loop-f
invariant-loop-f l = (x : ℕ) → x < l.f → can_pair l.positions l.chart l.first l.second l.e x ≡ false
