use Rattle.std.proofs.Common.{◌≡◌, drop, map}
use Rattle.msc_mermaid.specs.Parts.{first_place, stretch}
use Rattle.msc_mermaid.proofs.part.first_place.Given as goal

abbrev pub invariant-loop-i : goal.invariant-loop-i
invariant-loop-i l =
    first_place (map stretch (drop l.i l.parts)) l.end ≡ first_place (map stretch l.parts) l.end
