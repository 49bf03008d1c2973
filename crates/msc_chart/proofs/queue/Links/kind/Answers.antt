use Rattle.std.proofs.Common.{refl, sym, ◌∙◌}
use Rattle.msc_chart.specs.Architectures.{link_kind}
use Rattle.msc_chart.proofs.queue.Links.kind.Goals as goal

pub returns-then-has : goal.returns-then-has
unfolding link_kind
returns-then-has c = rw (sym c.has.ensures ∙ c.if-has.true) refl

pub returns-then-has-2 : goal.returns-then-has-2
unfolding link_kind
returns-then-has-2 c =
    rw (sym c.has.ensures ∙ c.if-has.false, sym c.has-else-has.ensures ∙ c.if-has-2.true) refl

pub returns-else-has-2 : goal.returns-else-has-2
unfolding link_kind
returns-else-has-2 c =
    rw (sym c.has.ensures ∙ c.if-has.false, sym c.has-else-has.ensures ∙ c.if-has-2.false) refl
