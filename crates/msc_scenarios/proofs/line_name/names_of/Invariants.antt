use Rattle.std.proofs.Common.{◌≡◌, [], drop}
use Rattle.msc_scenarios.specs.Naming.{names_behind}
use Rattle.msc_scenarios.proofs.line_name.names_of.Given as goal

abbrev pub invariant-loop-ident : goal.invariant-loop-ident
invariant-loop-ident l =
    names_behind l.names.items (drop l.ident-index l.idents) ≡ names_behind [] l.idents
