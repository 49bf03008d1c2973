use Rattle.msc_import_laws.proofs.SpelledArrows.{import_spelled}
use Rattle.msc_import_laws.proofs.laws.places_spell_their_arrows.Goals as goal

pub returns : goal.returns
returns c = import_spelled
