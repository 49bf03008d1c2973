use Rattle.std.proofs.Common.{List, ℕ, ◌++◌, ap, ◌∙◌}
use Rattle.msc_html.specs.Front.{head_node}
use Rattle.msc_html.specs.Reports.{title_text}
use Rattle.msc_race.specs.Wired.{EnforcedChart}
use Rattle.msc_tree.specs.Trees.{line_text}
use Rattle.msc_html.proofs.report.put_titled_head.Goals as goal

pub returns : goal.returns
returns c =
    let races = c.args.races in
    let closest = c.args.closest in
    let e = c.enforced-enforced.result.now in
    let title = c.deref.ensures.value ∙ c.in_ok-title.ensures
    ∙ ap (λ (n : List ℕ). title_text n e.chart e.queues races closest) c.as_slice-name.ensures
    ∙ ap (λ (x : EnforcedChart). title_text c.args.source.now.scene.now.name x.chart x.queues races closest) c.enforced-enforced.ensures in
    c.in_ok-put_head.ensures ∙ ap (λ (t : List ℕ). c.args.page.now.items ++ line_text (head_node t)) title
