use Rattle.std.proofs.Common.{◌≡◌, drop}
use Rattle.msc_mark.specs.declared.place.MarkPlace.TheVariants.{Race}
use Rattle.msc_mark.specs.Places.{next}
use Rattle.msc_mark.specs.Accepting.{some_word, is_architecture_place}
use Rattle.msc_mark.proofs.mark.has_architectures.Given as goal

abbrev pub invariant-loop-word : goal.invariant-loop-word
invariant-loop-word l =
    some_word (λ place w. is_architecture_place place) next l.place (drop l.word-index l.words) ≡ some_word (λ place w. is_architecture_place place) next Race l.words
