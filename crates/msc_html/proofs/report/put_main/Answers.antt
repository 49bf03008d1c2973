use Rattle.std.proofs.Common.{◌++◌, map, ap, ◌∙◌}
use Rattle.msc_html.specs.Articles.{article_node}
use Rattle.msc_html.specs.Progress.{judged}
use Rattle.msc_html.specs.Reports.{end_nodes, front_nodes, races_nodes}
use Rattle.msc_race.specs.Wired.{EnforcedChart}
use Rattle.msc_svg.proofs.Ranges.{lines_behind}
use Rattle.msc_tree.specs.Trees.{lines_text}
use Rattle.msc_html.proofs.report.put_main.Goals as goal

pub returns : goal.returns
returns c =
    let source = c.args.source.now in
    let s = source.scene.now in
    let races = c.args.races in
    let closest = c.args.closest in
    let e = judged source in
    let told = c.in_ok-put_races.ensures in
    let base = c.args.page.now.items in
    let p = c.put_front.new.page.items in
    let q = c.put_races.new.page.items in
    let front = front_nodes s e.chart e.queues races closest in
    let middle = races_nodes e.chart e.queues races closest (map (article_node s e.chart e.queues) told.articles) in
    let first = c.in_ok-put_front.ensures
    ∙ ap (λ (x : EnforcedChart). base ++ lines_text (front_nodes s x.chart x.queues races closest)) c.enforced-enforced.ensures in
    record {
      articles = told.articles;
      many = told.many;
      are = told.are;
      page_is = lines_behind base q c.put_end.new.page.items (front ++ middle)
          (end_nodes c.args.text.now c.args.version.now)
          (lines_behind base p q front middle first told.page_is) c.in_ok-put_end.ensures;
    }
