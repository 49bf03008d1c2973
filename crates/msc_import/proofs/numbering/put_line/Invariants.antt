use Rattle.std.proofs.Common.{◌≡◌, ◌++◌, map, take}
use Rattle.msc_import.specs.Numbering.{numbers_from}
use Rattle.msc_import.proofs.numbering.put_line.Given as goal

abbrev pub invariant-loop-number : goal.invariant-loop-number
invariant-loop-number l =
    l.numbers.items ≡ l.fn.numbers.items ++ numbers_from l.own l.line 0 (map (λ m. m.now) (take l.number l.arrows))
