use Rattle.std.proofs.Common.{rules}
use Rattle.std.specs.Str.{bytes_eq}
use Rattle.clap.proofs.WalkLemmas.{list_any-map}
use Rattle.msc_reason.specs.Causes.{kind_word}
use Rattle.msc_command.proofs.asking.is_allowed.Goals as goal

pub returns : goal.returns
returns c =
    let over_words = list_any-map (λ word. bytes_eq word (kind_word c.args.kind)) (λ word. word.now) c.args.words.now in
    let one_word = c.word.ensures in
    let found = c.contains.ensures.value in
    search rules
