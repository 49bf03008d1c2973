use Rattle.msc_import.specs.Whole.{wanted_all}
use Rattle.msc_import.proofs.AllLemmas.{told_not}
use Rattle.msc_import.proofs.whole.draw_all.Goals as goal

pub returns-in-Err : goal.returns-in-Err
returns-in-Err c =
    told_not (wanted_all c.args.importing) c.args.diagram.now c.with_name.result c.in-Err.fault c.with_name.ensures c.in-Err.ensures.err
