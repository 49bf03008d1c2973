use Rattle.std.proofs.lemmas.Result.{on_ok_weaker}
use Rattle.msc_scanning.proofs.Parts.{two_parts}
use Rattle.msc_scanning.proofs.last_lines.print_other_parts.Goals as goal

pub returns : goal.returns
returns c =
    on_ok_weaker c.print_part-2.result
    (two_parts c.args.tally _ _ _ c.either-begun.result c.either-begun-2.result c.either-begun.ensures c.either-begun-2.ensures c.in_ok-print_part.ensures)
    c.print_part-2.ensures
