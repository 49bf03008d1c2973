use Rattle.msc_answer.proofs.OwnLemmas.{silent_so}
use Rattle.msc_answer.specs.Own.{SaysInChart, ShowsInChart}
use Rattle.msc_answer.proofs.own.chart_is_silent.Goals as goal

pub returns : goal.returns
returns c =
    let text = c.args.text.now in
    silent_so (SaysInChart text) (ShowsInChart text) c.in_ok-own_in_chart.field-0 c.is_none.result c.is_none.ensures c.in_ok-own_in_chart.ensures
