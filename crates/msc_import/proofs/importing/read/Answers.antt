use Rattle.msc_import.specs.Importing.{read_from}
use Rattle.msc_import.proofs.ImportLemmas.{found_none, found_so}
use Rattle.msc_import.proofs.importing.read.Goals as goal

pub returns-in-Err : goal.returns-in-Err
returns-in-Err c =
    found_none (read_from c.args.reading) c.args.text.now c.unnamed.result c.in-Err.fault c.unnamed.ensures.fault c.unnamed.ensures.name c.in-Err.ensures

pub returns : goal.returns
returns c =
    found_so (read_from c.args.reading) c.args.text.now c.read_from.result _ c.in-Ok.ensures c.read_from.ensures
