use Rattle.std.proofs.Common.{◌≡◌, [], drop}
use Rattle.msc_scanning.specs.Words.{with_words, words_in}
use Rattle.msc_scanning.proofs.words.architectures_of.Given as goal

-- with the words that are left these are the architectures of all
abbrev pub invariant-loop-word : goal.invariant-loop-word
invariant-loop-word l = with_words l.found.items (words_in (drop l.word-index l.words)) ≡ with_words [] (words_in l.words)
