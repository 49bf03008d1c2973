use Rattle.msc_spoken.proofs.SpeakingLemmas.{single_blanks_lem}
use Rattle.msc_spoken.proofs.laws.spoken_has_single_blanks.Goals as goal

pub returns : goal.returns
returns c = single_blanks_lem
