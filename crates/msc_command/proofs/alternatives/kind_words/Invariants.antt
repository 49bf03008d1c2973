use Rattle.std.specs.Prelude.{◌≡◌, map, take}
use Rattle.msc_reason.specs.Causes.{kind_word}
use Rattle.msc_command.proofs.alternatives.kind_words.Given as goal

abbrev pub invariant-loop-kind : goal.invariant-loop-kind
invariant-loop-kind l = map (λ word. word.now) l.words.items ≡ map kind_word (take l.kind-index l.kind-items)
