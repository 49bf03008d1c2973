use Rattle.msc_answer.proofs.Extended.{extended, told_extends, unchanged}
use Rattle.msc_answer.proofs.refused.print_further.Goals as goal

pub loop-other-init : goal.loop-other-init
loop-other-init c = unchanged _

pub loop-other-preserved : goal.loop-other-preserved
loop-other-preserved c = extended _ _ _ c.loop-other.invariant (told_extends _ _ _ _ _ _ (c.in_ok-print_told.ensures))

pub returns : goal.returns
returns c = c.loop-other.invariant
