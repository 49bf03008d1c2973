use Rattle.std.proofs.Common.{ℕ, List, ◌++◌, ap, ap₂, ◌∙◌}
use Rattle.msc_html.specs.declared.diagram.ReportSection.{ReportSection}
use Rattle.msc_html.specs.DiagramReports.{diagram_front, end_of_diagram, sections_nodes}
use Rattle.msc_html.specs.Paragraphs.{paragraphs}
use Rattle.msc_svg.proofs.Ranges.{lines_behind}
use Rattle.msc_tree.specs.Trees.{lines_text}
use Rattle.msc_html.proofs.diagram.put_main.Goals as goal

pub returns : goal.returns
returns c =
    let x = c.args.cut in
    let r = x.report.now in
    let base = c.args.page.now.items in
    let p = c.put_front.new.page.items in
    let q = c.put_sections.new.page.items in
    let front = diagram_front r x.chart.now x.queues in
    let middle = sections_nodes (paragraphs r.found) 0 r.sections in
    let second = c.in_ok-put_sections.ensures
    ∙ ap₂ (λ (found : List (List ℕ)) (sections : List ReportSection). p ++ lines_text (sections_nodes found 0 sections)) c.requires.found c.as_slice.ensures in
    let third = c.in_ok-put_end.ensures
    ∙ ap (λ (n : ℕ). q ++ lines_text (end_of_diagram n c.args.version.now)) c.requires.races in
    lines_behind base q c.put_end.new.page.items (front ++ middle) _
    (lines_behind base p q front middle c.in_ok-put_front.ensures second) third
