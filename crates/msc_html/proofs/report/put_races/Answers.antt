use Rattle.std.proofs.Common.{◌++◌, map, ap, ◌∙◌}
use Rattle.msc_html.specs.Articles.{article_node}
use Rattle.msc_html.specs.Front.{advice_nodes}
use Rattle.msc_html.specs.Progress.{judged}
use Rattle.msc_html.specs.Reports.{if_any, more_nodes, races_title}
use Rattle.msc_race.specs.Wired.{EnforcedChart}
use Rattle.msc_svg.proofs.Ranges.{lines_behind}
use Rattle.msc_tree.specs.Trees.{lines_text}
use Rattle.msc_html.proofs.report.put_races.Goals as goal

pub returns : goal.returns
returns c =
    let source = c.args.source.now in
    let races = c.args.races in
    let closest = c.args.closest in
    let e = judged source in
    let told = c.in_ok-put_articles.ensures.1 in
    let base = c.args.page.now.items in
    let p = c.put_races_title.new.page.items in
    let q = c.put_articles.new.page.items in
    let r = c.put_more.new.page.items in
    let title = if_any races races_title in
    let articles = map (article_node source.scene.now e.chart e.queues) told.articles in
    let more = more_nodes e.chart e.queues closest in
    let third = c.in_ok-put_more.ensures
    ∙ ap (λ (x : EnforcedChart). q ++ lines_text (more_nodes x.chart x.queues closest)) c.enforced.ensures in
    record {
      articles = told.articles;
      many = told.many;
      are = told.are;
      page_is = lines_behind base r c.put_races_end.new.page.items ((title ++ articles) ++ more)
          (if_any races advice_nodes)
          (lines_behind base q r (title ++ articles) more
          (lines_behind base p q title articles c.in_ok-put_races_title.ensures told.page_is) third)
          c.in_ok-put_races_end.ensures;
    }
