use Rattle.std.proofs.Common.{◌≡◌, true, get_or, sym, refl, ◌∙◌, find, arith, rules}
use Rattle.std.specs.Str.{bytes_eq}
use Rattle.std.proofs.lemmas.List.{at_drop_more, at_drop_all}
use Rattle.msc_reason.specs.declared.cause.RaceKind.{RaceKind}
use Rattle.msc_reason.specs.declared.cause.RaceKind.TheVariants.{Early}
use Rattle.msc_reason.specs.Causes.{all_kinds, kind_of_word, kind_word}
use Rattle.msc_reason.proofs.cause.RaceKind.of.Goals as goal

pub returns-then-eq : goal.returns-then-eq
unfolding kind_of_word
returns-then-eq c =
    let i = c.loop-kind.kind-index in
    let is = λ (kind : RaceKind). bytes_eq c.args.word.now (kind_word kind) in
    let same : is (get_or all_kinds i Early) ≡ true = search rules in
    sym (at_drop_more (find is) all_kinds i Early (omega (arith, c.loop-kind-test.true)) ∙ rw same refl) ∙ c.loop-kind.invariant

pub returns : goal.returns
unfolding kind_of_word
returns c =
    sym (at_drop_all (find (λ (kind : RaceKind). bytes_eq c.args.word.now (kind_word kind))) all_kinds c.loop-kind.kind-index (omega (arith, c.loop-kind-test.false)))
    ∙ c.loop-kind.invariant
