use Rattle.std.proofs.Common.{arith, refl}
use Rattle.msc_chart.proofs.CycleLemmas.{lowered_sound}
use Rattle.msc_chart.proofs.cycle.lower.Goals as goal

pub returns-clause-sound : goal.returns-clause-sound
returns-clause-sound c =
    lowered_sound _ _ _ _ c.requires.matched c.requires.lines c.requires.sound _ c.requires.event (c.is_passed.ensures.0 c.if-not-is_passed.false) refl (omega arith)
