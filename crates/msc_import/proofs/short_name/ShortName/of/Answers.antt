use Rattle.msc_import.proofs.ImportLemmas.{filled}
use Rattle.msc_import.proofs.short_name.ShortName.of.Goals as goal

pub returns : goal.returns
returns c = filled c.args.name.now c.min-length.result c.copy_from_slice.new.self _ c.min-length.ensures c.copy_from_slice.ensures.after
