use Rattle.msc_spoken.proofs.ShownLemmas.{only_shown}
use Rattle.msc_spoken.proofs.laws.only_shown_characters.Goals as goal

pub returns : goal.returns
returns c = only_shown
