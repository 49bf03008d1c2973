use Rattle.msc_answer.proofs.ImportPages.{is_chart}
use Rattle.msc_answer.proofs.importing.import_chosen.Goals as goal

pub returns : goal.returns
returns c = is_chart c.imports_are_charts.ensures.one c.args.words c.args.text.now _ c.import_by.ensures
