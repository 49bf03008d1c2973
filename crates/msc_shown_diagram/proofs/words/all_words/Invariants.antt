use Rattle.std.proofs.Common.{◌≡◌, map, take}
use Rattle.msc_shown_diagram.specs.Words.{arrow_words, plain_arrow}
use Rattle.msc_shown_diagram.proofs.words.all_words.Given as goal

abbrev pub invariant-loop-placed : goal.invariant-loop-placed
invariant-loop-placed l = map plain_arrow l.all.items ≡ map (arrow_words l.file l.text l.lines) (take l.placed-index l.statements)
