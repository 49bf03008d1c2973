use Rattle.std.proofs.Common.{◌≡◌, ◌≤◌}
use Rattle.msc_arrow_marks.specs.Parts.{open_parts}
use Rattle.msc_arrow_marks.proofs.PartLemmas.{parts_on}
use Rattle.msc_arrow_marks.proofs.parts.open_parts.Given as goal

-- the next part began before, and all parts are those that were met and those that follow
abbrev pub invariant-loop-i : goal.invariant-loop-i
invariant-loop-i l = record {
  within : l.start ≤ l.i;
  parts : parts_on l.separator l.bytes l.parts.items l.quoted l.start l.i ≡ open_parts l.separator l.bytes;
}
