use Rattle.std.proofs.Common.{◌≡◌}
use Rattle.msc_print.specs.Rows.{below}
use Rattle.msc_ready.specs.Views.{blocked_pairs_from}
use Rattle.msc_text.specs.Readying.{first_in}
use Rattle.msc_text.proofs.readying.StickTable.count_first.Given as goal

-- those of the events so far are counted
abbrev pub invariant-loop-e : goal.invariant-loop-e
invariant-loop-e l = l.first ≡ first_in l.self.ahead.items (below (blocked_pairs_from l.self.blocked_pairs) l.e)
