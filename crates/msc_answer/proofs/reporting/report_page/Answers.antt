use Rattle.std.proofs.Common.{ℕ, List, Some, sym, ap, subst, ◌∙◌}
use Rattle.msc_diagram.specs.NewRaces.{AreNewLists}
use Rattle.msc_diagram.specs.declared.check.ScenarioCheck.{ScenarioCheck}
use Rattle.msc_diagram.specs.declared.scenario.Scenario.{Scenario}
use Rattle.msc_html.specs.DiagramReports.{diagram_report_text}
use Rattle.msc_html.specs.declared.diagram.DiagramReport.{DiagramReport}
use Rattle.msc_html.specs.declared.diagram.ReportSection.{ReportSection}
use Rattle.msc_answer.specs.Reported.{AreSections, IsFoundText}
use Rattle.msc_answer.proofs.reporting.report_page.Goals as goal

pub returns : goal.returns
returns c =
    let x = c.args.words in
    let t = c.args.told in
    let scenarios = c.args.scenarios.now in
    let new : List (List (ℕ × ℕ)) = c.in_ok-new.new.items in
    let first : Scenario = c.get.result.now in
    let report : DiagramReport = record {
      name = c.from_vec.result;
      scenarios = c.len-2.result;
      sections = c.from_vec-2.result;
      found = c.from_vec-3.result;
    } in
    record {
      report = report;
      name_is = c.from_vec.ensures ∙ c.in_ok-from_slice.ensures.items;
      scenarios_are = c.len-2.ensures;
      found_is = subst (IsFoundText x.check_args t scenarios) (sym c.from_vec-3.ensures) c.in_ok-found.ensures;
      new = new;
      new_are = subst (λ (k : ScenarioCheck). AreNewLists scenarios k new) c.listed_check.ensures c.in_ok-new.ensures;
      sections_are = subst (λ (l : List ReportSection). AreSections x.diagram t scenarios new l) (sym c.from_vec-2.ensures)
          (subst (λ (l : List (List (ℕ × ℕ))). AreSections x.diagram t scenarios l c.in_ok-sections.sections.items) c.as_slice.ensures.value c.in_ok-sections.ensures);
      first = first;
      at = c.in_ok-first.ensures ∙ ap Some (sym c.get.ensures);
      text = c.in_ok-page.ensures ∙ ap (diagram_report_text report first.chart x.check_args.queues) c.as_bytes.ensures.value;
    }
