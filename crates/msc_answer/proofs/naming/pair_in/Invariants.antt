use Rattle.std.proofs.Common.{ℕ, ◌<◌}
use Rattle.msc_answer.specs.Naming.{HasNoSecond}
use Rattle.msc_answer.proofs.naming.pair_in.Given as goal

-- none of the events so far is the first of a pair
abbrev pub invariant-loop-e : goal.invariant-loop-e
invariant-loop-e l = (x : ℕ) → x < l.e → HasNoSecond l.positions l.chart l.first l.second x
