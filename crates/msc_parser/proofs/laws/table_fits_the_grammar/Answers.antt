use Rattle.msc_parser.proofs.Fitting.{table_fits}
use Rattle.msc_parser.proofs.laws.table_fits_the_grammar.Goals as goal

pub returns : goal.returns
returns c = table_fits
