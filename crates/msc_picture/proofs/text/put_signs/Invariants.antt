use Rattle.std.proofs.Common.{◌≡◌, take, fold}
use Rattle.msc_picture.specs.Signs.{with_sign}
use Rattle.msc_picture.proofs.text.put_signs.Given as goal

abbrev pub invariant-loop-instance : goal.invariant-loop-instance
invariant-loop-instance l =
    l.line.items ≡ fold (with_sign l.c l.sign) l.initial.line.items (take l.instance-index l.instances)
