use Rattle.std.proofs.Common.{◌≡◌, true, get_or, sym, refl, ◌∙◌, find, arith, rules}
use Rattle.std.specs.Str.{bytes_eq}
use Rattle.std.proofs.lemmas.List.{at_drop_more, at_drop_all}
use Rattle.msc_chart.specs.declared.queue.LinkKind.{LinkKind}
use Rattle.msc_chart.specs.declared.queue.LinkKind.TheVariants.{Pair}
use Rattle.msc_chart.specs.Architectures.{link_kinds, link_kind_of_word, link_word}
use Rattle.msc_chart.proofs.queue.LinkKind.of.Goals as goal

pub returns-then-eq : goal.returns-then-eq
unfolding link_kind_of_word
returns-then-eq c =
    let i = c.loop-kind.kind-index in
    let is = λ (kind : LinkKind). bytes_eq c.args.word.now (link_word kind) in
    let same : is (get_or link_kinds i Pair) ≡ true = search rules in
    sym (at_drop_more (find is) link_kinds i Pair (omega (arith, c.loop-kind-test.true)) ∙ rw same refl) ∙ c.loop-kind.invariant

pub returns : goal.returns
unfolding link_kind_of_word
returns c =
    sym (at_drop_all (find (λ (kind : LinkKind). bytes_eq c.args.word.now (link_word kind))) link_kinds c.loop-kind.kind-index (omega (arith, c.loop-kind-test.false)))
    ∙ c.loop-kind.invariant
