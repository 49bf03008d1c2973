use Rattle.std.proofs.Common.{List, Option, option_copied, sym, subst, ◌∙◌}
use Rattle.msc_chart.specs.declared.queue.Queues.{Queues}
use Rattle.msc_draw.specs.Pictures.{PrintsPicture}
use Rattle.msc_picture.specs.declared.scene.RaceBar.{RaceBar}
use Rattle.msc_picture.specs.Scenes.{IsMarkedSceneOf}
use Rattle.msc_draw.proofs.MarkingLemmas.{no_bars}
use Rattle.msc_draw.proofs.drawing.draw_chart.Goals as goal

pub returns : goal.returns
returns c =
    let d = c.args.chart.now in
    let none = c.from_vec-bars.ensures ∙ c.new.ensures.items ∙ no_bars d.events in
    subst (λ (q : Option Queues). PrintsPicture c.args.draft.now d (option_copied c.args.ranks) q c.args.picture_format c.in_ok-page.page.bytes.items)
    (sym c.in_default.is) (record {
      scene = c.in_ok-scene.scene;
      right = subst (λ (m : List RaceBar). IsMarkedSceneOf c.args.draft.now d (option_copied c.args.ranks) m c.in_ok-scene.scene) none c.in_ok-scene.ensures;
      text = c.in_ok-page.ensures;
    })
