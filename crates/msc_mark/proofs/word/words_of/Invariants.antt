use Rattle.std.proofs.Common.{◌≡◌, map, take}
use Rattle.msc_mark.proofs.word.words_of.Given as goal

abbrev pub invariant-loop-part : goal.invariant-loop-part
invariant-loop-part l = l.words.items ≡ map (λ x. x.now) (take l.part-index l.part-items)
