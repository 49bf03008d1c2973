use Rattle.std.specs.Prelude.{◌≡◌, map, take}
use Rattle.msc_answer.specs.Tasks.{format_word}
use Rattle.msc_command.proofs.alternatives.format_words.Given as goal

abbrev pub invariant-loop-format : goal.invariant-loop-format
invariant-loop-format l = map (λ word. word.now) l.words.items ≡ map format_word (take l.format-index l.format-items)
