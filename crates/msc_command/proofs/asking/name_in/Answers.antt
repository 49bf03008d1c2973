use Rattle.std.proofs.Common.{arith}
use Rattle.std.proofs.lemmas.Str.{encode_ascii}
use Rattle.msc_command.proofs.Names.{no_number}
use Rattle.msc_command.proofs.asking.name_in.Goals as goal

pub returns-in-None-number_in : goal.returns-in-None-number_in
returns-in-None-number_in c =
    no_number c.args.text.now (rw (encode_ascii 58 (omega arith)) at c.in-None.ensures.cases) c.in-None-number_in.ensures
