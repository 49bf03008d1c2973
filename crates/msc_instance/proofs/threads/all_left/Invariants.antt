use Rattle.std.proofs.Common.{◌≡◌, ◌+◌, ◌≤◌, ◌++◌, map, reverse, vec_len, vec_capacity}
use Rattle.msc_instance.specs.declared.threads.Answer.TheVariants.{Ran}
use Rattle.msc_instance.proofs.threads.all_left.Given as goal

abbrev pub invariant-loop-answer : goal.invariant-loop-answer
invariant-loop-answer l = record {
  whole : l.fn.answers.items ≡ l.answers.items ++ reverse (map Ran l.ran.items);
  room : vec_len l.answers + vec_len l.ran ≤ vec_capacity l.ran;
}

abbrev pub decreases-loop-answer : goal.decreases-loop-answer
decreases-loop-answer l = vec_len l.answers
