use Rattle.std.proofs.Common.{◌≡◌, take, map}
use Rattle.msc_picture.specs.Scenes.{head_of}
use Rattle.msc_picture.proofs.part.heads_of.Given as goal

abbrev pub invariant-loop-section : goal.invariant-loop-section
invariant-loop-section l =
    l.heads.items ≡ map head_of (take l.section-index l.section-items)
