use Rattle.std.proofs.Common.{◌≡◌, ◌++◌, replicate}
use Rattle.msc_import.proofs.numbering.put_number.Given as goal

abbrev pub invariant-loop : goal.invariant-loop
invariant-loop l = l.numbers.items ≡ l.fn.numbers.items ++ replicate l.counter l.number
