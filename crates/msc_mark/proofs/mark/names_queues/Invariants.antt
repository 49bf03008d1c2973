use Rattle.std.proofs.Common.{◌≡◌, drop}
use Rattle.msc_mark.specs.declared.place.MarkPlace.TheVariants.{Race}
use Rattle.msc_mark.specs.Places.{next}
use Rattle.msc_mark.specs.Accepting.{some_word, is_queues}
use Rattle.msc_mark.proofs.mark.names_queues.Given as goal

abbrev pub invariant-loop-word : goal.invariant-loop-word
invariant-loop-word l =
    some_word (is_queues l.queues) next l.place (drop l.word-index l.words) ≡ some_word (is_queues l.queues) next Race l.words
