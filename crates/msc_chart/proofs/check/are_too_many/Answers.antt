use Rattle.std.proofs.Common.{inl}
use Rattle.std.proofs.lemmas.Bool.{lt-ltb}
use Rattle.msc_chart.proofs.check.are_too_many.Goals as goal

pub returns-then-count-limit : goal.returns-then-count-limit
returns-then-count-limit c =
    (λ _. inl (rw (← c.count.ensures) c.if-count-limit.true), λ _. lt-ltb _ c.count.result c.if-count-limit.true)
