use Rattle.std.proofs.Common.{sym, refl}
use Rattle.msc_links.specs.Tables.{tabled_kind}
use Rattle.msc_links.proofs.queues.tabled_kind.Goals as goal

pub returns-in-Some : goal.returns-in-Some
unfolding tabled_kind
returns-in-Some c = rw (sym c.in-Some.ensures) refl

pub returns-in-Some-kind_by : goal.returns-in-Some-kind_by
unfolding tabled_kind
returns-in-Some-kind_by c = rw (sym c.in_default.ensures, sym c.in-Some-kind_by.ensures) refl

pub returns-in-None : goal.returns-in-None
unfolding tabled_kind
returns-in-None c = rw (sym c.in_default.ensures, sym c.in-None.ensures) refl
