use Rattle.std.proofs.Common.{map, ap, sym, subst, ◌∙◌}
use Rattle.msc_chart.specs.Drawings.{IsAccepted}
use Rattle.msc_chart.specs.Charting.{messages_from, texts_of}
use Rattle.msc_chart.specs.Views.{mark_view}
use Rattle.msc_chart.proofs.Lawful.{same_drawing, accepted}
use Rattle.msc_chart.proofs.chart.Chart.build.Goals as goal

pub returns-clause-chart : goal.returns-clause-chart
returns-clause-chart c =
    let acts = ap (map mark_view) c.as_slice.ensures.keys ∙ c.in_ok-events.ensures.acts in
    same_drawing c.in_ok-name.ensures.chart c.in_ok-name.ensures.instances c.in_ok-events.ensures.events
    (c.in_ok-messages.ensures.messages ∙ ap (messages_from 0) acts) (c.in_ok-messages.ensures.texts ∙ ap texts_of acts)

pub invariant_of-result : goal.invariant_of-result
invariant_of-result c =
    let acts = ap (map mark_view) c.as_slice.ensures.keys ∙ c.in_ok-events.ensures.acts in
    let same = same_drawing c.in_ok-name.ensures.chart c.in_ok-name.ensures.instances c.in_ok-events.ensures.events
    (c.in_ok-messages.ensures.messages ∙ ap (messages_from 0) acts) (c.in_ok-messages.ensures.texts ∙ ap texts_of acts) in
    record {
      accepted = subst IsAccepted (sym same) (accepted c.args.draft.now c.in_ok-events.ensures.faultless);
      linear = c.in_ok-events.ensures.order;
    }
