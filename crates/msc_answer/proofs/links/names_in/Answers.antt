use Rattle.std.proofs.Common.{[], sym}
use Rattle.std.proofs.lemmas.Option.{get_or_from_slice_get}
use Rattle.msc_answer.specs.Linked.{made_name}
use Rattle.msc_answer.proofs.LineNames.{next_names}
use Rattle.msc_answer.proofs.links.names_in.Goals as goal

pub loop-i-preserved : goal.loop-i-preserved
loop-i-preserved c =
    let name = made_name c.args.chart.now in
    let is = sym (get_or_from_slice_get c.args.chart.now.instances c.loop-i.i c.instance_name-name.result.now [] c.instance_name-name.ensures) in
    rw c.in_ok-push.ensures.items
    (next_names name name name c.loop-i.i c.loop-i.names.items
    (record { own = c.instance_name-name.result; shown = c.instance_name-name.result; made = c.instance_name-name.result }) c.loop-i.invariant
    is is is)
