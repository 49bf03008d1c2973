use Rattle.std.proofs.Common.{List, ℕ, ◌++◌, ap, ◌∙◌}
use Rattle.msc_html.specs.Reports.{begin_nodes, chart_nodes, verdict_nodes}
use Rattle.msc_svg.proofs.Ranges.{lines_behind}
use Rattle.msc_tree.specs.Trees.{lines_text}
use Rattle.msc_html.proofs.opening.put_front.Goals as goal

pub returns : goal.returns
returns c =
    let s = c.args.scene.now in
    let base = c.args.page.now.items in
    let p = c.put_begin.new.page.items in
    let q = c.put_verdict.new.page.items in
    let e = c.args.enforced.now in
    let begin = begin_nodes s.name e.chart e.queues in
    let verdict = verdict_nodes c.args.races c.args.closest in
    let first = c.in_ok-put_begin.ensures
    ∙ ap (λ (name : List ℕ). base ++ lines_text (begin_nodes name e.chart e.queues)) c.as_slice.ensures in
    lines_behind base q c.put_chart.new.page.items (begin ++ verdict) (chart_nodes s c.args.races)
    (lines_behind base p q begin verdict first c.in_ok-put_verdict.ensures) c.in_ok-put_chart.ensures
