use Rattle.msc_spoken.proofs.CuttingLemmas.{cuts_to_fit_lem}
use Rattle.msc_spoken.proofs.laws.cuts_to_fit.Goals as goal

pub returns : goal.returns
returns c = cuts_to_fit_lem
