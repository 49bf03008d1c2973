use Rattle.std.proofs.Common.{◌≡◌, drop}
use Rattle.std.specs.List.{list_any}
use Rattle.msc_import.specs.Drawings.{shares_line}
use Rattle.msc_import.proofs.drawings.share_lines.Given as goal

abbrev pub invariant-loop-given : goal.invariant-loop-given
invariant-loop-given l =
    list_any (shares_line l.own l.diagram) (drop l.given-index l.lists) ≡ list_any (shares_line l.own l.diagram) l.lists
