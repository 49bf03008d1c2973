use Rattle.msc_import_laws.proofs.Imports.{scenario_events}
use Rattle.msc_import_laws.proofs.laws.events_are_ends_of_their_arrows.Goals as goal

pub returns : goal.returns
returns c = λ how manner text d given draft e v is h. scenario_events how manner text d given draft is e v h
