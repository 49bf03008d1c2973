use Rattle.msc_import_laws.proofs.Drafts.{draft_drawn}
use Rattle.msc_import_laws.proofs.Told.{is_drawn_down}
use Rattle.msc_import_laws.proofs.laws.scenarios_are_drawn_down.Goals as goal

pub returns : goal.returns
returns c = record {
  diagrams = λ manner name d given draft out e. draft_drawn d out given manner name draft e;
  paths = λ manner name lines names ps ss plans planned told. is_drawn_down manner name lines names ps ss plans planned told;
}
