use Rattle.msc_diagnostic.proofs.WindowLemmas.{windows_lem}
use Rattle.msc_diagnostic.proofs.laws.windows_hold_their_marks.Goals as goal

pub returns : goal.returns
returns c = windows_lem
