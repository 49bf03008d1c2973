use Rattle.msc_import.proofs.NumberLemmas.{numbers_name}
use Rattle.msc_import.proofs.laws.arrow_numbers_name_the_arrows.Goals as goal

pub returns : goal.returns
returns c = numbers_name
