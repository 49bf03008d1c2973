use Rattle.msc_diagnostic.proofs.ShownRows.{shown_lem}
use Rattle.msc_diagnostic.proofs.laws.only_shown_characters.Goals as goal

pub returns : goal.returns
returns c = shown_lem c.only_shown_characters.ensures
