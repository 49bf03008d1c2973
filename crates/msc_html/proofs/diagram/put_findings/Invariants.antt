use Rattle.std.proofs.Common.{◌≡◌, ◌≤◌, ◌-◌, ◌++◌}
use Rattle.msc_html.specs.DiagramReports.{findings_nodes}
use Rattle.msc_tree.specs.Trees.{lines_text}
use Rattle.msc_html.proofs.diagram.put_findings.Given as goal

-- the articles so far
abbrev pub invariant-loop-j : goal.invariant-loop-j
invariant-loop-j l = record {
  from : l.k ≤ l.j;
  page : l.page.items ≡ l.fn.page.items ++ lines_text (findings_nodes l.found l.k (l.j - l.k));
}
