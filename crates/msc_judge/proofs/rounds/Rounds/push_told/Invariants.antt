use Rattle.std.proofs.Common.{◌≡◌, ◌≤◌, ◌++◌}
use Rattle.msc_chart.specs.Lists.{pairs_to}
use Rattle.msc_judge.specs.Between.{is_told}
use Rattle.msc_judge.proofs.rounds.Rounds.push_told.Given as goal

-- the pairs with the events so far are listed
abbrev pub invariant-loop-y : goal.invariant-loop-y
invariant-loop-y l = record {
  low : l.start ≤ l.y;
  list : l.list.items ≡ l.initial.list.items ++ pairs_to (is_told l.self.numbers.now l.self.listing.now.judged l.self.listing.now.allowed) l.x l.y;
}
