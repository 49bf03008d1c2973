use Rattle.std.proofs.Common.{ℕ, length, option_copied, sym, ap, subst, ◌∙◌}
use Rattle.msc_draw.specs.Listed.{listed_of}
use Rattle.msc_html.specs.Findings.{AreArticles}
use Rattle.msc_html.specs.Reports.{report, report_text}
use Rattle.msc_parser.specs.Canonical.{canonical}
use Rattle.msc_picture.specs.Scenes.{IsSceneOf}
use Rattle.msc_race.specs.Views.{wiring_of}
use Rattle.msc_race.specs.Wired.{EnforcedChart}
use Rattle.msc_reason.specs.Closest.{IsClosestList}
use Rattle.msc_reason.specs.LeftOut.{leaves_none}
use Rattle.msc_reason.specs.Marked.{cause_in}
use Rattle.msc_reason.specs.Selected.{Selected}
use Rattle.msc_html.proofs.report.report_enforced.Goals as goal

pub returns : goal.returns
returns c =
    let e = c.args.enforced in
    let draft = c.args.draft.now in
    let ranks = option_copied c.args.ranks in
    let version = c.args.version.now in
    let causes = c.what_counts_is_listed.ensures.causes e c.facts.ensures.order c.facts.ensures.chart in
    let all = c.every_race_that_counts_spans_a_closest_one.ensures.list e c.facts.ensures.order
    c.facts.ensures.chart _ (cause_in e) causes (ap leaves_none c.of_kinds.ensures) in
    let s = c.in_ok-listing.listing in
    let judged = ap (λ (x : Selected). x.judged) c.in_ok-listing.ensures in
    let told = c.in_ok-page.ensures in
    let closest = listed_of s in
    record {
      order = e.order;
      by_order = c.facts.ensures.order;
      closest = closest;
      are = subst (λ (x : Selected). IsClosestList (wiring_of e) (listed_of x))
          (sym c.in_ok-listing.ensures) all;
      scene = told.scene;
      right = subst (λ (x : EnforcedChart). IsSceneOf draft x.chart ranks closest told.scene) judged told.right;
      many = told.many;
      articles = told.articles;
      tell = subst (λ (x : EnforcedChart). AreArticles draft x.chart ranks x.queues closest told.many told.articles)
          judged told.are;
      text = told.text
          ∙ ap (λ (x : EnforcedChart). report_text (report x.chart x.queues c.count_races-races.result
          (length closest) told.scene told.articles (canonical draft) version)) judged
          ∙ ap (λ (n : ℕ). report_text (report e.chart e.queues n (length closest) told.scene told.articles
          (canonical draft) version)) c.count_races-races.ensures;
    }
