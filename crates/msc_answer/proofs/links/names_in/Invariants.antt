use Rattle.msc_answer.specs.Linked.{made_name, AreNames}
use Rattle.msc_answer.proofs.links.names_in.Given as goal

-- the names of the lines so far
abbrev pub invariant-loop-i : goal.invariant-loop-i
invariant-loop-i l = AreNames (made_name l.chart) (made_name l.chart) (made_name l.chart) l.i l.names.items
