use Rattle.msc_reason.proofs.Named.{names_all}
use Rattle.msc_reason.proofs.laws.a_reason_names_events.Goals as goal

pub returns : goal.returns
returns c = names_all
