use Rattle.std.proofs.Common.{◌<◌, ◌≤◌, ◌++◌, None, Some, length, refl, ap, ◌∙◌, arith}
use Rattle.msc_race.specs.Wired.{EnforcedChart}
use Rattle.msc_html.specs.Articles.{article, article_node}
use Rattle.msc_html.specs.Progress.GoesOn.{draws, causes, left}
use Rattle.msc_tree.specs.Trees.{line_text}
use Rattle.msc_html.proofs.races.put_run_article.Goals as goal

pub returns-then-progress-clause-article : goal.returns-then-progress-clause-article
returns-then-progress-clause-article c =
    let same = c.enforced-enforced.ensures in (
      None,
      left c.if-progress.true refl c.if-progress.true,
      c.in_ok-put_article.ensures
          ∙ ap (λ (x : EnforcedChart). c.args.page.now.items ++ line_text (article_node c.args.source.now.scene.now x.chart x.queues (article c.args.told None))) same,
    )

pub returns-then-rows-progress-clause-article : goal.returns-then-rows-progress-clause-article
returns-then-rows-progress-clause-article c =
    let same = c.enforced-enforced.ensures in
    let wide : c.args.progress.now.room < length c.in_ok-run.run'.rows = omega (arith, c.if-rows-progress.true, ap length c.as_slice-rows.ensures) in (
      None,
      causes c.in_ok-run.run' c.if-progress.false c.in_ok-run.ensures wide refl refl,
      c.in_ok-put_article-2.ensures
          ∙ ap (λ (x : EnforcedChart). c.args.page.now.items ++ line_text (article_node c.args.source.now.scene.now x.chart x.queues (article c.args.told None))) same,
    )

pub returns-clause-article : goal.returns-clause-article
returns-clause-article c =
    let same = c.enforced-enforced.ensures in
    let long = ap length c.as_slice-rows.ensures in
    let fits : length c.in_ok-run.run'.rows ≤ c.args.progress.now.room = omega (arith, c.if-rows-progress.false, long) in (
      Some c.in_ok-run.run',
      draws c.in_ok-run.run' c.if-progress.false c.in_ok-run.ensures fits (omega (arith, long)) c.if-progress.false,
      c.in_ok-put_article-3.ensures
          ∙ ap (λ (x : EnforcedChart). c.args.page.now.items ++ line_text (article_node c.args.source.now.scene.now x.chart x.queues (article c.args.told (Some c.in_ok-run.run')))) same,
    )
