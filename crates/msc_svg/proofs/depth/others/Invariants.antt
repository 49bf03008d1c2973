use Rattle.std.proofs.Common.{◌≡◌, filter, take}
use Rattle.msc_svg.specs.Depths.{is_other}
use Rattle.msc_svg.proofs.depth.others.Given as goal

abbrev pub invariant-loop-u : goal.invariant-loop-u
invariant-loop-u l =
    l.kept.items ≡ filter (is_other l.m) (take l.u-index l.under)
