use Rattle.std.proofs.Common.{◌≡◌, take}
use Rattle.msc_text.specs.Readying.{first_in}
use Rattle.msc_text.proofs.readying.first_in.Given as goal

-- those of the pairs so far are counted
abbrev pub invariant-loop-pair : goal.invariant-loop-pair
invariant-loop-pair l = l.count ≡ first_in l.ahead (take l.pair-index l.pairs)
