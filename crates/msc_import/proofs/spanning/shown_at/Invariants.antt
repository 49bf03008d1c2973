use Rattle.std.proofs.Common.{◌≡◌, drop}
use Rattle.msc_import.specs.Places.{shown_at}
use Rattle.msc_import.proofs.spanning.shown_at.Given as goal

abbrev pub invariant-loop-placed : goal.invariant-loop-placed
invariant-loop-placed l =
    shown_at l.ident (drop l.placed-index l.statements) ≡ shown_at l.ident l.statements
