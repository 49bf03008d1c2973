use Rattle.std.proofs.Common.{◌≡◌, drop, find}
use Rattle.std.specs.Str.{bytes_eq}
use Rattle.msc_answer.specs.Tasks.{format_word}
use Rattle.msc_answer.proofs.tasks.Format.of.Given as goal

-- no form so far has the word
abbrev pub invariant-loop-format : goal.invariant-loop-format
invariant-loop-format l =
    find (λ format. bytes_eq l.word (format_word format)) (drop l.format-index l.format-items)
    ≡ find (λ format. bytes_eq l.word (format_word format)) l.format-items
