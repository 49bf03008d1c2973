use Rattle.std.proofs.Common.{[], ◌∷◌, codes}
use Rattle.msc_html.specs.Reports.{shown_node, version_node}
use Rattle.msc_svg.proofs.Chains.{as_lines, line_then}
use Rattle.msc_tree.specs.Shapes.{plain}
use Rattle.msc_html.proofs.report.put_end.Goals as goal

pub returns : goal.returns
returns c =
    let p = c.put_plain.new.page.items in
    let q = c.put_shown.new.page.items in
    let next = c.put_version.new.page.items in
    let shown = shown_node c.args.text.now in
    let version = version_node c.args.version.now in
    line_then c.args.page.now.items p next (plain (codes "h2") (codes "The text")) (shown ∷ version ∷ [])
    c.in_ok-put_plain.ensures
    (line_then p q next shown (version ∷ []) c.in_ok-put_shown.ensures
    (as_lines q next version c.in_ok-put_version.ensures))
