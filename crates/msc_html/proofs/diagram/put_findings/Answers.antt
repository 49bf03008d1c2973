use Rattle.std.proofs.Common.{◌≡◌, ◌+◌, ◌-◌, ◌++◌, ℕ, List, sym, ap, ◌∙◌, arith}
use Rattle.msc_html.proofs.FindingLemmas.{findings_more}
use Rattle.msc_html.specs.DiagramReports.{finding_node, findings_nodes, paragraph_at}
use Rattle.msc_svg.proofs.Chains.{then_line}
use Rattle.msc_tree.specs.Trees.{Node, line_text, lines_text}
use Rattle.msc_html.proofs.diagram.put_findings.Goals as goal

pub loop-j-preserved : goal.loop-j-preserved
loop-j-preserved c =
    let found = c.args.found.now in
    let k = c.args.k in
    let j = c.loop-j.j in
    let from = c.loop-j.invariant.from in
    let old = c.loop-j.page.items in
    let next = c.put_finding.new.page.items in
    let base = c.args.page.now.items in
    let nodes = findings_nodes found k (j - k) in
    let one : Node = finding_node (j + 1) (paragraph_at found j) in
    let put : next ≡ old ++ line_text one =
    c.in_ok-put_finding.ensures
    ∙ ap (λ (n : ℕ). old ++ line_text (finding_node n c.paragraph_at.result.now)) c.in_ok-plus.ensures
    ∙ ap (λ (t : List ℕ). old ++ line_text (finding_node (j + 1) t)) c.paragraph_at.ensures in
    record {
      from = omega (arith, from);
      page = then_line base old next nodes one c.loop-j.invariant.page put
          ∙ ap (λ (x : List Node). base ++ lines_text x) (sym (findings_more found k j from));
    }

pub returns : goal.returns
returns c =
    let end = c.in_ok-end.ensures in
    let from = c.loop-j.invariant.from in
    let past = c.loop-j-test.false in
    let reached = c.loop-j.auto.j-end in
    let all : c.loop-j.j - c.args.k ≡ c.args.races = omega (arith, end, from, past, reached) in
    c.loop-j.invariant.page
    ∙ ap (λ (n : ℕ). c.args.page.now.items ++ lines_text (findings_nodes c.args.found.now c.args.k n)) all
