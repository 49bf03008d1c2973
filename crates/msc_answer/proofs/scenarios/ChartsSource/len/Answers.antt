use Rattle.std.proofs.Common.{ap, length, sym, ◌∙◌}
use Rattle.std.proofs.lemmas.List.{length-map}
use Rattle.msc_answer.specs.Charting.{with_chart}
use Rattle.msc_answer.proofs.scenarios.ChartsSource.len.Goals as goal

pub returns : goal.returns
returns c =
    let x = c.self.inside in
    c.len.ensures ∙ sym (length-map x.drawings (with_chart x.file.now)) ∙ ap length c.self.view_is
