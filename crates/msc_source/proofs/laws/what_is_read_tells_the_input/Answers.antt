use Rattle.msc_source.proofs.Beginnings.{told}
use Rattle.msc_source.proofs.laws.what_is_read_tells_the_input.Goals as goal

pub returns : goal.returns
returns c = told
