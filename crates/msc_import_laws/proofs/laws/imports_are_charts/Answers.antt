use Rattle.msc_import_laws.specs.Imports.{all_read_as, read_as}
use Rattle.msc_import_laws.proofs.Imports.{all_scenario, import_scenario, scenario_drawn}
use Rattle.msc_import_laws.proofs.laws.imports_are_charts.Goals as goal

pub returns : goal.returns
returns c = record {
  one = λ x text is e.
      let s = import_scenario x text is e in
      (scenario_drawn (read_as x) x.manner text s.0 s.1 is.draft s.3).faultless;
  all = λ x text all s e o.
      let r = all_scenario x text all s e o in
      (scenario_drawn (all_read_as x) x.manner text r.0 s.choices s.draft r.1).faultless;
}
