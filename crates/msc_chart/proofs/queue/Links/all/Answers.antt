use Rattle.std.proofs.Common.{refl}
use Rattle.msc_chart.specs.Architectures.{link_kind, link_number}
use Rattle.msc_chart.proofs.LinkLemmas.{every_link, no_link}
use Rattle.msc_chart.proofs.queue.Links.all.Goals as goal

pub returns-in-Pair-clause-kinds : goal.returns-in-Pair-clause-kinds
unfolding link_kind
returns-in-Pair-clause-kinds c s r s_in r_in = rw (c.in-Pair.is, every_link s r s_in r_in) refl

pub returns-in-Mailbox-clause-kinds : goal.returns-in-Mailbox-clause-kinds
unfolding link_kind
returns-in-Mailbox-clause-kinds c s r s_in r_in =
    rw (c.in-Mailbox.is, no_link (link_number s r), every_link s r s_in r_in) refl

pub returns-in-Single-clause-kinds : goal.returns-in-Single-clause-kinds
unfolding link_kind
returns-in-Single-clause-kinds c s r s_in r_in = rw (c.in-Single.is, no_link (link_number s r)) refl
