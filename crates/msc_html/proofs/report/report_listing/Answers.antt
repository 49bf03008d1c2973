use Rattle.std.proofs.Common.{◌≡◌, ℕ, List, length, option_copied, ap, sym, subst, ◌++◌, ◌∙◌}
use Rattle.msc_chart.specs.Drawings.{Drawing}
use Rattle.msc_draw.specs.Listed.{listed_of}
use Rattle.msc_html.specs.Reports.{report, report_text}
use Rattle.msc_picture.specs.Bars.{bars_of}
use Rattle.msc_picture.specs.declared.scene.RaceBar.{RaceBar}
use Rattle.msc_picture.specs.Scenes.{IsMarkedSceneOf, IsSceneOf}
use Rattle.msc_race.specs.Wired.{EnforcedChart}
use Rattle.msc_html.proofs.report.report_listing.Goals as goal

pub returns : goal.returns
returns c =
    let s = c.args.listing.now in
    let told = c.in_ok-put_page.ensures in
    let scene = c.in_ok-scene.scene in
    let ranks = option_copied c.args.ranks in
    let chart : c.chart-chart.result.now ≡ s.judged.chart =
    c.chart-chart.ensures ∙ ap (λ (x : EnforcedChart). x.chart) c.enforced.ensures in
    let bars = c.in_ok-bars.ensures.bars
    ∙ ap (λ (d : Drawing). bars_of d.events (listed_of s)) (sym chart) in
    let text = c.deref.ensures.value ∙ c.in_ok-text.ensures.text in
    record {
      scene = scene;
      right = subst (λ (d : Drawing). IsSceneOf c.args.draft.now d ranks (listed_of s) scene) chart
          (subst (λ (m : List RaceBar). IsMarkedSceneOf c.args.draft.now c.chart-chart.result.now ranks m scene) bars c.in_ok-scene.ensures);
      articles = told.articles;
      many = told.many;
      are = told.are;
      text = told.page_is
          ∙ ap (λ (l : List ℕ). l ++ report_text (report s.judged.chart s.judged.queues c.args.races c.in_ok-bars.closest scene told.articles c.deref.result.now c.args.version.now)) c.new-bytes.ensures.items
          ∙ ap (λ (n : ℕ). report_text (report s.judged.chart s.judged.queues c.args.races n scene told.articles c.deref.result.now c.args.version.now)) c.in_ok-bars.ensures.told
          ∙ ap (λ (t : List ℕ). report_text (report s.judged.chart s.judged.queues c.args.races (length (listed_of s)) scene told.articles t c.args.version.now)) text;
    }
