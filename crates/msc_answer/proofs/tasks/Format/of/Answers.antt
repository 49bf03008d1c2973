use Rattle.std.proofs.Common.{◌≡◌, true, get_or, sym, refl, ◌∙◌, find, arith, rules}
use Rattle.std.specs.Str.{bytes_eq}
use Rattle.std.proofs.lemmas.List.{at_drop_more, at_drop_all}
use Rattle.msc_answer.specs.declared.tasks.Format.{Format}
use Rattle.msc_answer.specs.declared.tasks.Format.TheVariants.{Text}
use Rattle.msc_answer.specs.Tasks.{format_word, format_of_word, formats_all}
use Rattle.msc_answer.proofs.tasks.Format.of.Goals as goal

pub returns-then-eq : goal.returns-then-eq
unfolding format_of_word
returns-then-eq c =
    let i = c.loop-format.format-index in
    let is = λ (format : Format). bytes_eq c.args.word.now (format_word format) in
    let same : is (get_or formats_all i Text) ≡ true = search rules in
    sym (at_drop_more (find is) formats_all i Text (omega (arith, c.loop-format-test.true)) ∙ rw same refl) ∙ c.loop-format.invariant

pub returns : goal.returns
unfolding format_of_word
returns c =
    sym (at_drop_all (find (λ (format : Format). bytes_eq c.args.word.now (format_word format))) formats_all c.loop-format.format-index (omega (arith, c.loop-format-test.false)))
    ∙ c.loop-format.invariant
