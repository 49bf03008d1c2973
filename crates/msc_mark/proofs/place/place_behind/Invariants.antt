use Rattle.std.proofs.Common.{◌≡◌, drop}
use Rattle.msc_mark.specs.declared.place.MarkPlace.TheVariants.{Race}
use Rattle.msc_mark.specs.Places.{behind}
use Rattle.msc_mark.proofs.place.place_behind.Given as goal

abbrev pub invariant-loop-word : goal.invariant-loop-word
invariant-loop-word l = behind l.place (drop l.word-index l.words) ≡ behind Race l.words
