use Rattle.std.proofs.Common.{◌≡◌, ◌≤◌, drop}
use Rattle.msc_answer.specs.Importing.{greatest_choice, number_behind}
use Rattle.msc_answer.proofs.choices.number_of.Given as goal

abbrev pub invariant-loop-byte : goal.invariant-loop-byte
invariant-loop-byte l = record {
  within : l.number ≤ greatest_choice;
  behind : number_behind l.number (drop l.byte-index l.bytes) ≡ number_behind 0 l.bytes;
}
