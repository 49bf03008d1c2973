use Rattle.msc_answer.specs.Linked.{made_name, own_name, shown_name, AreNames}
use Rattle.msc_answer.proofs.links.names_of.Given as goal

-- the names of the lines so far
abbrev pub invariant-loop-i : goal.invariant-loop-i
invariant-loop-i l = AreNames (own_name l.text l.spans.names) (shown_name l.text l.spans) (made_name l.chart) l.i l.names.items
