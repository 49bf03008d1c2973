use Rattle.msc_chart.specs.Drawings.{chart_of}
use Rattle.msc_chart.proofs.Lawful.{accepted}
use Rattle.msc_import_laws.proofs.Imports.{scenario_drawn, scenario_order, scenario_run}
use Rattle.msc_import_laws.proofs.laws.the_text_is_a_run.Goals as goal

pub returns : goal.returns
returns c = record {
  run = λ how manner text d given draft queues order is down.
      let none = (scenario_drawn how manner text d given draft is).faultless in
      scenario_run how manner text d given draft is queues order (c.ends_share_queues.ensures queues (chart_of draft) (accepted draft none)) (λ r u i j same. c.inputs_share_lines.ensures queues (chart_of draft) r u (accepted draft none) i j same) down;
  order = scenario_order;
}
