use Rattle.std.proofs.Common.{◌≡◌, ◌+◌, ◌∙◌, replicate, rules, refl}
use Rattle.msc_fifo.proofs.InletSteps.{begins}
use Rattle.msc_fifo.proofs.making.row.Goals as goal

pub of_words-requires : goal.of_words-requires
of_words-requires c = let zeros : c.in_ok-words.words.items ≡ replicate (c.args.places + c.args.places + 2) 0 = search rules in begins c.args.places _ _ c.requires refl (c.as_slice.ensures.value ∙ zeros)
