use Rattle.bit_rows.proofs.Rows.{has_blank}
use Rattle.msc_order.proofs.queueing.renew.Goals as goal

pub take_left-requires-clause-blank : goal.take_left-requires-clause-blank
take_left-requires-clause-blank c y = rw c.fill.ensures.after (has_blank _ y)
