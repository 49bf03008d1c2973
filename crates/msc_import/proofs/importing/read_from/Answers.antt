use Rattle.std.proofs.Common.{Ok}
use Rattle.msc_import.proofs.ImportLemmas.{untold}
use Rattle.msc_import.proofs.importing.read_from.Goals as goal

pub returns-in-Err : goal.returns-in-Err
returns-in-Err c =
    untold c.args.found.now (λ d. Ok d) c.unread.result c.in-Err.fault _ c.unread.ensures.fault c.unread.ensures.name c.in-Err.ensures
