use Rattle.msc_import.specs.Importing.{imported_from, wanted}
use Rattle.msc_import.proofs.ImportLemmas.{found_none, found_so}
use Rattle.msc_import.proofs.importing.import.Goals as goal

pub returns-in-Err-clause-given : goal.returns-in-Err-clause-given
returns-in-Err-clause-given c =
    found_none (imported_from (wanted c.args.importing)) c.args.text.now c.unnamed.result c.in-Err.fault c.unnamed.ensures.fault c.unnamed.ensures.name c.in-Err.ensures

pub returns-clause-given : goal.returns-clause-given
returns-clause-given c =
    found_so (imported_from (wanted c.args.importing)) c.args.text.now c.import_from.result _ c.in-Ok.ensures c.import_from.ensures.given
