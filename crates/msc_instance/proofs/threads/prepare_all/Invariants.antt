use Rattle.std.proofs.Common.{◌≡◌, ◌≤◌, ◌++◌, length, vec_capacity}
use Rattle.msc_instance.proofs.Prepared.{ArePrepared}
use Rattle.msc_instance.proofs.threads.prepare_all.Given as goal

abbrev pub invariant-loop-ends : goal.invariant-loop-ends
invariant-loop-ends l = record {
  number : l.number ≡ length l.yielded;
  whole : l.initial.ends-iterator.rest.items ≡ l.yielded ++ l.ends-iterator.rest.items;
  prepared : ArePrepared l.chart l.yielded l.jobs.items;
  room : length l.initial.ends-iterator.rest.items ≤ vec_capacity l.jobs;
}
