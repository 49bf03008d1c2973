use Rattle.std.proofs.Common.{◌≡◌, ◌<◌, length, arith, subst, suc, set, ◌+◌}
use Rattle.msc_instance.specs.Threads.{IsClosedJob}
use Rattle.msc_instance.proofs.Zipped.{ZipsUpTo, upto_more, upto_all}
use Rattle.msc_instance.proofs.threads.close_each.Goals as goal

pub loop-job-preserved : goal.loop-job-preserved
loop-job-preserved c =
    let lt : c.loop-job.job-index < length c.loop-job.jobs = omega arith in
    let r = upto_more IsClosedJob c.loop-job.job-index c.args.jobs.now c.loop-job.jobs
    c.job-item.result c.close.new.job lt
    c.close.ensures c.loop-job.invariant in
    let s : suc c.loop-job.job-index ≡ c.loop-job.job-index + 1 = omega arith in
    subst (λ i. ZipsUpTo IsClosedJob i c.args.jobs.now
    (set c.loop-job.jobs c.loop-job.job-index c.close.new.job)) s r

pub returns : goal.returns
returns c = upto_all IsClosedJob c.loop-job.job-index c.args.jobs.now c.loop-job.jobs
    (omega arith) c.loop-job.invariant
