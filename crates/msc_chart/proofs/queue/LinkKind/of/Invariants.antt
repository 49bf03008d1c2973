use Rattle.std.proofs.Common.{◌≡◌, drop, find}
use Rattle.std.specs.Str.{bytes_eq}
use Rattle.msc_chart.specs.Architectures.{link_word}
use Rattle.msc_chart.proofs.queue.LinkKind.of.Given as goal

-- no kind so far has the word
abbrev pub invariant-loop-kind : goal.invariant-loop-kind
invariant-loop-kind l =
    find (λ kind. bytes_eq l.word (link_word kind)) (drop l.kind-index l.kind-items)
    ≡ find (λ kind. bytes_eq l.word (link_word kind)) l.kind-items
