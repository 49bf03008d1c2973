use Rattle.std.proofs.Common.{◌≡◌, ◌++◌, drop}
use Rattle.msc_svg.specs.Actions.{parts_after, parts_of}
use Rattle.msc_svg.proofs.action.parts_of.Given as goal

abbrev pub invariant-loop-byte : goal.invariant-loop-byte
invariant-loop-byte l =
    l.parts.items ++ parts_after l.held.items l.later (drop l.byte-index l.text) ≡ parts_of l.text
