use Rattle.msc_import_laws.proofs.Imports.{all_scenario, import_scenario}
use Rattle.msc_import_laws.proofs.Texts.{text_outlined}
use Rattle.msc_import_laws.proofs.laws.imports_are_scenarios.Goals as goal

pub returns : goal.returns
returns c = record {
  one = import_scenario;
  all = all_scenario;
  outlined = λ how text d e. text_outlined how.language how.cross how.fence text d e;
}
