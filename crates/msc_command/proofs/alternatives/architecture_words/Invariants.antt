use Rattle.std.specs.Prelude.{◌≡◌, map, take}
use Rattle.msc_chart.specs.Architectures.{link_word}
use Rattle.msc_command.proofs.alternatives.architecture_words.Given as goal

abbrev pub invariant-loop-kind : goal.invariant-loop-kind
invariant-loop-kind l = map (λ word. word.now) l.words.items ≡ map link_word (take l.kind-index l.kind-items)
