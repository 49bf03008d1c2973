use Rattle.std.proofs.Common.{◌≡◌, ◌++◌, drop}
use Rattle.msc_html.specs.DiagramReports.{sections_nodes}
use Rattle.msc_tree.specs.Trees.{lines_text}
use Rattle.msc_html.proofs.diagram.put_sections.Given as goal

-- the page, and the scenarios that are left
abbrev pub invariant-loop-section : goal.invariant-loop-section
invariant-loop-section l =
    l.page.items ++ lines_text (sections_nodes l.found l.k (drop l.section-index l.sections))
    ≡ l.fn.page.items ++ lines_text (sections_nodes l.found 0 l.sections)
