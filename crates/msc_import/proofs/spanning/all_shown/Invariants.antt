use Rattle.std.proofs.Common.{◌≡◌, map, take}
use Rattle.msc_import.specs.Places.{shown_at}
use Rattle.msc_import.proofs.spanning.all_shown.Given as goal

abbrev pub invariant-loop-line : goal.invariant-loop-line
invariant-loop-line l =
    l.shown.items ≡ map (λ ident. shown_at ident l.statements) (take l.line-index l.lines)
