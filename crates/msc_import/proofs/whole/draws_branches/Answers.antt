use Rattle.std.proofs.Common.{◌∙◌}
use Rattle.msc_import.specs.Whole.{wanted_all}
use Rattle.msc_import.proofs.AllLemmas.{draws_some}
use Rattle.msc_import.proofs.whole.draws_branches.Goals as goal

pub returns-in_ok-share-in-Drawn : goal.returns-in_ok-share-in-Drawn
returns-in_ok-share-in-Drawn c =
    c.in_ok-share-in-Drawn.ensures ∙ draws_some (wanted_all c.args.importing) c.args.diagram.now c.args.lists.now c.requires c.in-Drawn.is
