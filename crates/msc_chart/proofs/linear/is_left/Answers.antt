use Rattle.std.proofs.lemmas.Bool.{not-true, not_from_false, eqb-true, eq-eqb}
use Rattle.msc_chart.specs.Charts.{line}
use Rattle.msc_chart.proofs.linear.is_left.Goals as goal

pub returns-then-events-x : goal.returns-then-events-x
unfolding line
returns-then-events-x c = (λ h. record { on_line = c.if-events-x.true; left = not-true _ h }, λ u. not_from_false _ u.left)

pub returns-else-events-x : goal.returns-else-events-x
unfolding line
returns-else-events-x c = (λ h. absurd (c.if-events-x.false (eqb-true _ _ h)), λ u. eq-eqb _ _ u.on_line)
