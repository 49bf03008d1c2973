use Rattle.std.proofs.Common.{refl}
use Rattle.msc_ready.proofs.Shared.{clash}
use Rattle.msc_ready.proofs.beginning.Beginning.comes_among.Goals as goal

pub returns-then-not-may_come : goal.returns-then-not-may_come
returns-then-not-may_come c = (λ h. clash h refl, λ comes. clash (c.may_come.ensures.1 comes.1) c.if-not-may_come.true)

pub returns : goal.returns
returns c = (
  λ h. (c.is_among.ensures.0 h, c.may_come.ensures.0 c.if-not-may_come.false),
  λ comes. c.is_among.ensures.1 comes.0,
)
