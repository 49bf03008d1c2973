use Rattle.std.proofs.Common.{◌≡◌, length}
use Rattle.msc_import.specs.Drawings.{AreFirst}
use Rattle.msc_import.proofs.drawings.draw_first.Given as goal

-- the scenarios so far are drawn
abbrev pub invariant-loop-given : goal.invariant-loop-given
invariant-loop-given l =
    (length l.first.items ≡ l.given-index) × AreFirst l.manner l.name l.diagram l.lists l.first.items
