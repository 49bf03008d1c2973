use Rattle.msc_tree.proofs.Escapes.{all_named, no_markup, read_back}
use Rattle.msc_tree.proofs.laws.escape_reads_back.Goals as goal

pub returns : goal.returns
returns c = record { back = read_back; markup = no_markup; named = all_named }
