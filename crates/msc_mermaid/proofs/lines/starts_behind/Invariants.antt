use Rattle.msc_mermaid.proofs.StartLemmas.{AreStarted}
use Rattle.msc_mermaid.proofs.lines.starts_behind.Given as goal

abbrev pub invariant-loop-i : goal.invariant-loop-i
invariant-loop-i l = AreStarted l.before l.text l.starts.items l.start l.cr l.i
