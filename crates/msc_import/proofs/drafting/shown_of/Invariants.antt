use Rattle.std.proofs.Common.{◌≡◌, drop}
use Rattle.msc_import.specs.Drafting.{shown_of}
use Rattle.msc_import.proofs.drafting.shown_of.Given as goal

abbrev pub invariant-loop-placed : goal.invariant-loop-placed
invariant-loop-placed l =
    shown_of l.ident (drop l.placed-index l.statements) ≡ shown_of l.ident l.statements
