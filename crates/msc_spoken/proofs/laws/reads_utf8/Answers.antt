use Rattle.msc_spoken.proofs.ReadingLemmas.{reads_utf8_lem}
use Rattle.msc_spoken.proofs.laws.reads_utf8.Goals as goal

pub returns : goal.returns
returns c = reads_utf8_lem
