use Rattle.std.proofs.Common.{◌≡◌, map}
use Rattle.msc_import.specs.Numbering.{numbers_on_lines}
use Rattle.msc_import.proofs.numbering.numbers_on_lines.Given as goal

abbrev pub invariant-loop-line : goal.invariant-loop-line
invariant-loop-line l = l.numbers.items ≡ numbers_on_lines l.own l.line (map (λ m. m.now) l.arrows)
