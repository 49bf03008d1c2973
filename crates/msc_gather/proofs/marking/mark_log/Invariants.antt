use Rattle.msc_chart.specs.Wirings.{wired_by}
use Rattle.msc_gather.proofs.MarkLemmas.{IsMarking}
use Rattle.msc_gather.proofs.marking.mark_log.Given as goal

abbrev pub invariant-loop-e : goal.invariant-loop-e
invariant-loop-e l = IsMarking (wired_by l.w) l.i l.start l.log l.fn.marks l.marks l.e-index l.front
