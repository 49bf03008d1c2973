use Rattle.msc_instance.specs.Threads.{IsClosedJob}
use Rattle.msc_instance.proofs.Zipped.{ZipsUpTo}
use Rattle.msc_instance.proofs.threads.close_each.Given as goal

abbrev pub invariant-loop-job : goal.invariant-loop-job
invariant-loop-job l = ZipsUpTo IsClosedJob l.job-index l.fn.jobs l.jobs
